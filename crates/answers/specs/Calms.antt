-- The calm bits of a system's states.
use Rattle.std.specs.Prelude.{◌≡◌, ℕ, ◌<◌, ◌≤◌, Bool, false, List, length, slice_index_or}
use Rattle.theory.specs.Systems.{Lts}
use Rattle.theory.specs.Layers.{Layering}

-- of all of them, read off once
abbrev pub Calms : Layering → Lts → List Bool → Type 0
Calms y M bits = (M.n ≤ length bits) × ((s : ℕ) → s < M.n → slice_index_or bits s false ≡ y.calm (M.moves s))
