use Rattle.std.proofs.Common.{◌≡◌, ℕ, ◌<◌, map, length, vec_items}
use Rattle.actions.specs.Transitions.{moves_of}
use Rattle.systems.specs.StateLists.{list_at}
use Rattle.systems.proofs.listed.Listed.of.Given as goal

abbrev pub invariant-loop-s : goal.invariant-loop-s
invariant-loop-s g l =
    (length (vec_items l.states) ≡ l.s)
    × ((j : ℕ) → j < l.s → moves_of (list_at (map vec_items (vec_items l.states)) j) ≡ (g.L.Lists.meaning l.source).moves j)
