use Rattle.std.proofs.Common.{rules}
use Rattle.sheets.proofs.Rows.{row_right}
use Rattle.sheets.proofs.compared.Compared.check_equal_row.Goals as goal

pub returns : goal.returns
returns g c =
    let p = c.args.self.now in
    let s = c.of-s.result in
    let t = c.of-t.result in
    let row = row_right g.Y.Layer.rule g.S.System.meaning g.T.System.meaning g.P.Held.holds p.left.now s.system.now p.right.now t.system.now c.args.pairs.now c.of-flipped.result.pairs.now s.s t.s c.args.row c.args.at c.in_ok-check_states.field-0 c.in_ok-check_answers.field-0 c.check_answers-2.result c.in_ok-check_states.ensures c.in_ok-check_answers.ensures in
    search (rules, row)
