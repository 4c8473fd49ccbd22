use Rattle.std.proofs.Common.{false, ap, ◌∙◌}
use Rattle.std.proofs.lemmas.List.{map_more}
use Rattle.std.proofs.lemmas.Result.{err_from_is_err_and}
use Rattle.theory.specs.Faults.{passed}
use Rattle.theory.proofs.Faults.{refused_here, passed_here}
use Rattle.certificates.specs.DifferentSheets.{different_row, pair_of}
use Rattle.sheets.proofs.PairSets.{gathered_more}
use Rattle.sheets.proofs.DifferentRows.{gathered_row}
use Rattle.sheets.proofs.compared.Compared.check_different_rows.Goals as goal

pub returns-in_err-check_different_row : goal.returns-in_err-check_different_row
returns-in_err-check_different_row g c =
    let p = c.loop-i.pairs in
    let e = c.loop-i.invariant in
    let rows = c.args.rows.now in
    let i = c.loop-i.i in
    let same = gathered_row g.Y.Layer.rule _ _ (g.S.System.lawful c.args.self.now.left.now) (g.T.System.lawful c.args.self.now.right.now) p.n1 p.n2 e.0 e.1 p.words rows i (different_row rows i) e.2 in
    let r = err_from_is_err_and c.from_residual.result c.from_residual.ensures.1 in
    rw (r.1, r.2) (refused_here _ rows i e.3 _ c.in_err-check_different_row.field-0.0 c.loop-i-test.true (c.in_err-check_different_row.ensures ∙ ap passed same))

pub loop-i-preserved : goal.loop-i-preserved
loop-i-preserved g c =
    let p = c.loop-i.pairs in
    let e = c.loop-i.invariant in
    let rows = c.args.rows.now in
    let i = c.loop-i.i in
    let same = gathered_row g.Y.Layer.rule _ _ (g.S.System.lawful c.args.self.now.left.now) (g.T.System.lawful c.args.self.now.right.now) p.n1 p.n2 e.0 e.1 p.words rows i (different_row rows i) e.2 in (
      c.insert.ensures.sizes.0 ∙ e.0,
      c.insert.ensures.sizes.1 ∙ e.1,
      gathered_more _ _ (λ a b. false) p.n1 p.n2 p.words c.insert.new.self.words _ _ (pair_of (different_row rows i)) e.0 e.1 (map_more pair_of rows i _ c.loop-i-test.true) e.2 c.insert.ensures.pairs,
      passed_here _ rows i e.3 _ _ c.loop-i-test.true (c.in_ok-check_different_row.ensures ∙ ap passed same),
    )
