-- Lists of transitions, one for each state, as a system.
use Rattle.std.proofs.Common.{◌≡◌, ℕ, ◌<◌, ◌≤◌, List, [], length, sym, ap, ◌∙◌, subst, inl, inr, arith}
use mathlib.Core.Path.{fun_ext}
use Rattle.std.specs.List.{AllByRecursion}
use Rattle.std.proofs.lemmas.Bool.{cases_lt}
use Rattle.std.proofs.lemmas.List.{get_or_past, length-map}
use Rattle.theory.specs.Systems.{Lts, Sound, Lawful}
use Rattle.actions.specs.declared.action.Action.{Action}
use Rattle.actions.specs.Transitions.{move_of, moves_of, Inside}
use Rattle.actions.proofs.Transitions.{inside_sound}
use Rattle.systems.specs.StateLists.{list_at}

abbrev pub in_lists : ℕ → ℕ → List (List (Action × ℕ)) → Lts
in_lists n w lists = record { n = n; w = w; moves = λ s. moves_of (list_at lists s) }

-- n lists, in which a system of the width w is worked out
pub record Holds (M : Lts) (n w : ℕ) (lists : List (List (Action × ℕ))) : Type 0 where
  pub states : n ≡ M.n
  pub width : w ≡ M.w
  pub moves : (s : ℕ) → moves_of (list_at lists s) ≡ M.moves s

pub same : {M : Lts} {n w : ℕ} {lists : List (List (Action × ℕ))} → Holds M n w lists → in_lists n w lists ≡ M
same h = λ i. record { n = h.states i; w = h.width i; moves = fun_ext h.moves i }

module _ {M : Lts} {n w : ℕ} {lists : List (List (Action × ℕ))} (law : Lawful M) (h : Holds M n w lists) where
  pub few : n ≤ 1024
  few = omega (arith, law.few, h.states)

  pub narrow : w ≤ 4096
  narrow = omega (arith, law.narrow, h.width)

  pub short : (s : ℕ) → length (list_at lists s) ≤ w
  short s = omega (arith, ap length (h.moves s), length-map (list_at lists s) move_of, law.short s, h.width)

  pub inside : (s : ℕ) → Inside (list_at lists s) n
  inside s = inside_sound n (list_at lists s) (subst (λ k. AllByRecursion (Sound k) (moves_of (list_at lists s))) (sym h.states) (subst (AllByRecursion (Sound M.n)) (sym (h.moves s)) (law.sound s)))

  pub empty : n ≡ 0 → w ≡ 0
  empty e = h.width ∙ law.empty (sym h.states ∙ e)

-- past the last state a lawful system has no transitions
pub holds_all : (M : Lts) → Lawful M → (n w : ℕ) (lists : List (List (Action × ℕ))) → length lists ≡ n → n ≡ M.n → w ≡ M.w → ((j : ℕ) → j < n → moves_of (list_at lists j) ≡ M.moves j) → Holds M n w lists
holds_all M law n w lists e en ew h = record {
  states = en;
  width = ew;
  moves = λ s. elim (cases_lt s n) [
    | inl l ↦ h s l
    | inr l ↦ ap moves_of (get_or_past lists s [] (omega arith)) ∙ sym (law.none s (omega arith))
  ];
}
