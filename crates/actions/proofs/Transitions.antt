-- Every transition that the code holds has a lawful action.
use Rattle.std.proofs.Common.{◌≡◌, ℕ, ◌+◌, ◌<◌, List, [], ◌∷◌, map, length, get_or, sym, refl, ap, ◌∙◌, subst, add-one, arith}
use Rattle.std.proofs.ByRecursion.{All-get_or}
use Rattle.std.proofs.lemmas.List.{length-map, get_or-map}
use Rattle.std.specs.List.{AllByRecursion}
use Rattle.theory.specs.Systems.{Move, Sound}
use Rattle.actions.specs.declared.action.Action.{Action}
use Rattle.actions.specs.Transitions.{move_of, moves_of, Inside}

pub sound_inside : (n : ℕ) (ms : List (Action × ℕ)) → Inside ms n → AllByRecursion (Sound n) (moves_of ms)
sound_inside n [] h = tt
sound_inside n (m ∷ ms) h = ((m.0.lawful, h 0 (omega arith)), sound_inside n ms (λ j l. rw add-one at (h (j + 1) (omega arith))))

pub inside_sound : (n : ℕ) (ms : List (Action × ℕ)) → AllByRecursion (Sound n) (moves_of ms) → Inside ms n
inside_sound n ms h j l =
    subst (λ k. k < n) (at_target j l) (All-get_or (Sound n) (moves_of ms) j (0, 0) (omega (arith, length-map ms move_of)) h).1 where
      at_target : (j : ℕ) → j < length ms → (get_or (moves_of ms) j (0, 0)).1 ≡ get_or (map (λ m. m.1) ms) j 0
      at_target j l = sym (get_or-map (λ (m : Move). m.1) (moves_of ms) j (0, 0) 0 (omega (arith, length-map ms move_of))) ∙ ap (λ xs. get_or xs j 0) (targets_of ms) where
        targets_of : (ms : List (Action × ℕ)) → map (λ (m : Move). m.1) (moves_of ms) ≡ map (λ m. m.1) ms
        targets_of [] = refl
        targets_of (m ∷ ms) = ap (λ ks. m.1 ∷ ks) (targets_of ms)
