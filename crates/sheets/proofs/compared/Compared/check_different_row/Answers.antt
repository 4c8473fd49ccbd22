use Rattle.std.proofs.Common.{◌≡◌, arith}
use Rattle.theory.specs.Layers.{shown}
use Rattle.sheets.proofs.DifferentRows.{row_right}
use Rattle.sheets.proofs.compared.Compared.check_different_row.Goals as goal

pub returns-in-Right : goal.returns-in-Right
returns-in-Right g c =
    let a = shown g.Y.Layer.rule (g.S.System.meaning c.args.self.now.left.now) in
    let b = shown g.Y.Layer.rule (g.T.System.meaning c.args.self.now.right.now) in
    let s = c.of-s.ensures in
    let t = c.of-t.ensures in
    let side : c.args.at.side ≡ 1 = grind arith in
    row_right a b (g.P.Held.holds c.args.pairs.now) c.args.row c.args.at _ _ c.in_ok-check_states.ensures side (rw (c.in-Right.is, c.of.ensures, s.0, s.1, t.0, t.1) at c.check_named-in-Right.ensures)
