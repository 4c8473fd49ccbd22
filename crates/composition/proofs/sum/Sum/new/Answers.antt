use Rattle.rules.proofs.Following.{sum_follows}
use Rattle.composition.proofs.sum.Sum.new.Goals as goal

pub returns-clause-rules : goal.returns-clause-rules
returns-clause-rules g c = sum_follows c.args.left_start c.args.right_start (g.L.System.meaning c.args.left) (g.R.System.meaning c.args.right) (g.L.System.lawful c.args.left) (g.R.System.lawful c.args.right)
