use Rattle.std.proofs.Common.{arith}
use Rattle.std.proofs.lemmas.Grind.{common_steps}
use Rattle.sheets.proofs.PairSets.{gathered_new}
use Rattle.sheets.proofs.Rows.{gathered_fault}
use Rattle.sheets.proofs.compared.Compared.check_equal_sheet.Goals as goal

pub returns-in_err-check_equal_rows : goal.returns-in_err-check_equal_rows
returns-in_err-check_equal_rows g c =
    let same = gathered_fault g.Y.Layer.rule _ _ (g.S.System.lawful c.args.self.now.left.now) (g.T.System.lawful c.args.self.now.right.now) _ c.args.rows.now (gathered_new _ _ _ _ _ _ _ _ _ c.new-pairs.ensures.sizes.0 c.new-pairs.ensures.sizes.1 c.gather.ensures.sizes.0 c.gather.ensures.sizes.1 c.new-pairs.ensures.none c.gather.ensures.pairs) in
    grind (arith, common_steps)

pub returns : goal.returns
returns g c =
    let same = gathered_fault g.Y.Layer.rule _ _ (g.S.System.lawful c.args.self.now.left.now) (g.T.System.lawful c.args.self.now.right.now) _ c.args.rows.now (gathered_new _ _ _ _ _ _ _ _ _ c.new-pairs.ensures.sizes.0 c.new-pairs.ensures.sizes.1 c.gather.ensures.sizes.0 c.gather.ensures.sizes.1 c.new-pairs.ensures.none c.gather.ensures.pairs) in
    grind (arith, common_steps)
