use Rattle.std.proofs.Common.{◌≡◌, take, vec_items, vec_len}
use Rattle.designs.specs.Nodes.{forms}
use Rattle.designs.specs.Shapes.{Shaped}
use Rattle.designs.specs.Operations.{forms_in}
use Rattle.designs.proofs.outline.Outline.of.Given as goal

abbrev pub invariant-loop-i : goal.invariant-loop-i
invariant-loop-i l = (forms_in (vec_items l.entries) ≡ forms (take l.i l.nodes)) × (vec_len l.entries ≡ l.i) × Shaped (forms l.nodes) (vec_items l.entries) l.i
