-- The layer of what stands keeps exactly the transitions that the two clauses let stand.
use Rattle.std.specs.Prelude.{ℕ, ◌↔◌}
use Rattle.theory.specs.Systems.{Lts, Moves}
use Rattle.theory.specs.Layers.{standing, Stands}

abbrev pub StandingClauses : Type 0
StandingClauses = (M : Lts) (s a t : ℕ) → Moves (standing M) s a t ↔ Stands M s a t
