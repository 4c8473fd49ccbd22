use Rattle.rules.proofs.Following.{nil_follows}
use Rattle.composition.proofs.nil.Nil.new.Goals as goal

pub returns : goal.returns
returns c = nil_follows
