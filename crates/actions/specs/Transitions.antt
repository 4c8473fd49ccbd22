-- A transition as the code holds it, an action and a target, and what a question for one answers.
use Rattle.std.specs.Prelude.{◌≡◌, ℕ, ◌<◌, ◌≤◌, List, map, length, Some, None, Option, slice_index, slice_index_or}
use Rattle.theory.specs.Systems.{Move}
use Rattle.actions.specs.declared.action.Action.{Action}

abbrev pub move_of : Action × ℕ → Move
move_of p = (p.0.code, p.1)

abbrev pub moves_of : List (Action × ℕ) → List Move
moves_of ms = map move_of ms

-- the k-th of ms, counted from 0, or none past the end
abbrev pub Kth : List Move → ℕ → Option (Action × ℕ) → Type 0
Kth ms k None = length ms ≤ k
Kth ms k (Some p) = (k < length ms) × (slice_index_or ms k (0, 0) ≡ move_of p)

-- every target is one of n states
abbrev pub Inside : List (Action × ℕ) → ℕ → Type 0
Inside ms n = (j : ℕ) → j < length ms → slice_index (map (λ m. m.1) ms) j < n
