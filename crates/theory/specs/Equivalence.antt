-- Equality under any layer is an equivalence. Of the system in the middle, transitivity needs that its transitions lead from
-- states to states, which every lawful system has.
use Rattle.std.specs.Prelude.{ℕ, ◌<◌}
use Rattle.theory.specs.Systems.{Lts, Moves, Lawful}
use Rattle.theory.specs.Layers.{Layering}
use Rattle.theory.specs.Bisimulations.{EqualUnder}

abbrev pub InRange : Lts → Type 0
InRange M = (s a t : ℕ) → s < M.n → Moves M s a t → t < M.n

abbrev pub LawfulInRange : Type 0
LawfulInRange = (M : Lts) → Lawful M → InRange M

abbrev pub Reflexive : Type 0
Reflexive = (y : Layering) (M : Lts) (s : ℕ) → EqualUnder y M M s s

abbrev pub Symmetric : Type 0
Symmetric = (y : Layering) (M N : Lts) (s t : ℕ) → EqualUnder y M N s t → EqualUnder y N M t s

abbrev pub Transitive : Type 0
Transitive = (y : Layering) (L M N : Lts) → InRange M → (s t u : ℕ) → t < M.n → EqualUnder y L M s t → EqualUnder y M N t u → EqualUnder y L N s u
