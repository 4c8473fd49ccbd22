use Rattle.sheets.proofs.PairSets.{pair_put}
use Rattle.sheets.proofs.pair_set.PairSet.insert.Goals as goal

pub returns-in-Some-clause-pairs : goal.returns-in-Some-clause-pairs
returns-in-Some-clause-pairs c =
    let p = c.args.self.now in
    let e = c.in-Some.ensures in
    pair_put p.n1 p.n2 c.args.x c.args.y c.in-Some.i p.words c.set_bit.new.words e.0 e.1 c.set_bit.ensures
