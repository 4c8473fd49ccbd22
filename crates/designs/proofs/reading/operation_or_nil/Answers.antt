use Rattle.std.proofs.Common.{ap, ◌∙◌}
use Rattle.designs.specs.Operations.{form_of}
use Rattle.designs.proofs.Readings.{or_nil}
use Rattle.designs.proofs.reading.operation_or_nil.Goals as goal

pub returns : goal.returns
returns c = ap form_of c.unwrap_or.ensures ∙ or_nil c.args.i c.args.node _ c.operation_at.ensures
