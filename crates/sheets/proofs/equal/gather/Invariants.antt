use Rattle.std.proofs.Common.{◌≡◌, take}
use Rattle.sheets.specs.Bitmaps.{pair_bit}
use Rattle.sheets.proofs.PairSets.{Gathered}
use Rattle.sheets.proofs.equal.gather.Given as goal

abbrev pub invariant-loop-row : goal.invariant-loop-row
invariant-loop-row l =
    let p = l.fn.pairs in
    (l.pairs.n1 ≡ p.n1) × (l.pairs.n2 ≡ p.n2) × Gathered p.n1 p.n2 (pair_bit p.n1 p.n2 p.words) l.pairs.words (take l.row-index l.rows)
