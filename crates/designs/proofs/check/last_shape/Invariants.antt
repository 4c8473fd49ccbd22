use Rattle.std.proofs.Common.{◌≡◌, length}
use Rattle.designs.specs.Nodes.{forms}
use Rattle.designs.specs.Shapes.{Shaped}
use Rattle.designs.specs.Checks.{Faultless}
use Rattle.designs.proofs.check.last_shape.Given as goal

abbrev pub invariant-loop-i : goal.invariant-loop-i
invariant-loop-i l = Faultless l.nodes l.i × Shaped (forms l.nodes) l.entries l.i × (length l.entries ≡ 256)
