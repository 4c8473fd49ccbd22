use Rattle.rules.proofs.Following.{prefix_follows}
use Rattle.composition.proofs.prefix.Prefix.new.Goals as goal

pub returns-clause-rules : goal.returns-clause-rules
returns-clause-rules g c = prefix_follows c.args.action.code c.args.start (g.S.System.meaning c.args.below) (g.S.System.lawful c.args.below)
