use Rattle.std.proofs.Common.{refl}
use Rattle.worked_examples.proofs.Checks.{all_hold, all_lawful}
use Rattle.worked_examples.proofs.Meanings.{meanings_follow_rules}
use Rattle.worked_examples.proofs.worked_examples_hold.Goals as goal

pub returns : goal.returns
returns c = record { count = refl; hold = all_hold; lawful = all_lawful; rules = meanings_follow_rules }
