use Rattle.std.proofs.Common.{take, refl, ◌∙◌}
use Rattle.std.proofs.lemmas.List.{take_more, take_all}
use Rattle.certificates.specs.EqualSheets.{row_at}
use Rattle.sheets.proofs.PairSets.{gathered_none, gathered_more}
use Rattle.sheets.proofs.equal.gather.Goals as goal

pub loop-row-init : goal.loop-row-init
loop-row-init c =
    let p = c.args.pairs.now in
    (refl, refl, gathered_none p.n1 p.n2 p.words)

pub loop-row-preserved : goal.loop-row-preserved
loop-row-preserved c =
    let p = c.loop-row.pairs in
    let e = c.loop-row.invariant in
    let rows = c.args.rows.now in
    let i = c.loop-row.row-index in
    (c.insert.ensures.sizes.0 ∙ e.0, c.insert.ensures.sizes.1 ∙ e.1, gathered_more _ _ _ p.n1 p.n2 p.words c.insert.new.self.words (take i rows) _ (row_at rows i) e.0 e.1 (take_more rows i _ c.loop-row-test.true) e.2 c.insert.ensures.pairs)

pub returns-clause-pairs : goal.returns-clause-pairs
returns-clause-pairs c = rw (take_all c.loop-row.row-index c.args.rows.now c.loop-row-test.false) at c.loop-row.invariant.2
