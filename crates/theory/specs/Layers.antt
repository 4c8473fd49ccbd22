-- A layer chooses which transitions of a state count. It reads one bit off all of them, whether the state is calm, and then
-- decides by that bit and the action's code.
use Rattle.std.specs.Prelude.{◌≡◌, ℕ, ◌%◌, Bool, true, not, ◌&&◌, ◌||◌, ◌⊎◌, List, [], ◌∷◌, filter, ◌==◌}
use Rattle.theory.specs.Codes.{prioritised}
use Rattle.theory.specs.Systems.{Move, Lts, Moves}

pub record Layering : Type 0 where
  pub calm : List Move → Bool
  pub keeps : Bool → ℕ → Bool

abbrev pub keeps_move : Layering → Bool → Move → Bool
keeps_move y calm m = y.keeps calm m.0

-- the system with the transitions that count, in their order
abbrev pub shown : Layering → Lts → Lts
shown y M = record { n = M.n; w = M.w; moves = λ s. filter (keeps_move y (y.calm (M.moves s))) (M.moves s) }

-- A state is patient if none of its transitions is the prioritised inner action.
abbrev pub patient : List Move → Bool
patient [] = true
patient (m ∷ ms) = not (m.0 == 1) && patient ms

-- What stands: every prioritised transition, and the others in patient states only.
abbrev pub standing_layer : Layering
standing_layer = record { calm = patient; keeps = λ calm a. calm || prioritised a }

abbrev pub standing : Lts → Lts
standing M = shown standing_layer M

-- The same as a relation, with the two clauses of Cleaveland and Hennessy's prioritised transitions.
abbrev pub Patient : Lts → ℕ → Type 0
Patient M s = (t : ℕ) → Moves M s 1 t → ⊥

abbrev pub Stands : Lts → ℕ → ℕ → ℕ → Type 0
Stands M s a t = Moves M s a t × ((a % 2 ≡ 1) ⊎ Patient M s)
