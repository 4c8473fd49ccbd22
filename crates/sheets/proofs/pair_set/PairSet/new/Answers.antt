use Rattle.sheets.proofs.PairSets.{no_bit}
use Rattle.sheets.proofs.pair_set.PairSet.new.Goals as goal

pub returns-clause-none : goal.returns-clause-none
returns-clause-none g c = no_bit
