-- A loop that asks the questions of one element after another.
use Rattle.std.proofs.Common.{◌≡◌, ℕ, ◌+◌, ◌<◌, ◌≤◌, List, length, get_or, drop, Some, None, Ok, Err, Option, sym, refl, ap, ◌∙◌, arith}
use Rattle.std.proofs.lemmas.List.{at_drop_more, at_drop_all}
use Rattle.theory.specs.Faults.{or_else, first_fault, passed}

pub fault_from_refused : {F : Type 0} (o : Option F) (f : F) → Err f ≡ passed o → o ≡ Some f
fault_from_refused None f e = let z : ⊥ = grind arith in elim z [ ]
fault_from_refused (Some g) f e = let h : f ≡ g = grind arith in ap Some (sym h)

pub none_from_passed : {F : Type 0} (o : Option F) (u : Unit {0}) → Ok u ≡ passed o → o ≡ None
none_from_passed None u e = refl
none_from_passed (Some g) u e = let z : ⊥ = grind arith in elim z [ ]

module _ {X F : Type 0} (q : ℕ → X → Option F) (xs : List X) (i : ℕ) (inv : first_fault q 0 xs ≡ first_fault q i (drop i xs)) where
  step : (d : X) → i < length xs → first_fault q 0 xs ≡ or_else (q i (get_or xs i d)) (first_fault q (i + 1) (drop (i + 1) xs))
  step d h = inv ∙ at_drop_more (first_fault q i) xs i d h

  pub refused_here : (d : X) (f : F) → i < length xs → Err f ≡ passed (q i (get_or xs i d)) → Err f ≡ passed (first_fault q 0 xs)
  refused_here d f h e = sym (ap passed (step d h ∙ ap (λ o. or_else o (first_fault q (i + 1) (drop (i + 1) xs))) (fault_from_refused (q i (get_or xs i d)) f e)))

  pub passed_here : (d : X) (u : Unit {0}) → i < length xs → Ok u ≡ passed (q i (get_or xs i d)) → first_fault q 0 xs ≡ first_fault q (i + 1) (drop (i + 1) xs)
  passed_here d u h e = step d h ∙ ap (λ o. or_else o (first_fault q (i + 1) (drop (i + 1) xs))) (none_from_passed (q i (get_or xs i d)) u e)

  pub passed_all : length xs ≤ i → Ok tt ≡ passed (first_fault q 0 xs)
  passed_all h = sym (ap passed (inv ∙ at_drop_all (first_fault q i) xs i h))
