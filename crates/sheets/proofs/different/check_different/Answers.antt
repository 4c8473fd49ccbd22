use Rattle.theory.specs.Layers.{shown}
use Rattle.theory.proofs.Laws.{shown_lawful}
use Rattle.certificates.proofs.DifferentTold.{different_accepted, different_refused}
use Rattle.certificates.proofs.Cells.{different_sheets}
use Rattle.sheets.proofs.Rows.{answer_accepted, answer_refused}
use Rattle.sheets.proofs.different.check_different.Goals as goal

pub returns : goal.returns
returns g c =
    let rule = g.Y.Layer.rule in
    let x = g.S.System.meaning c.args.left.now in
    let y = g.T.System.meaning c.args.right.now in
    let rows = c.args.rows.now in
    let s = c.args.s in
    let t = c.args.t in
    record {
      accepted = answer_accepted _ _ c.check_different_sheet.ensures _ (different_accepted (shown rule x) (shown rule y) rows s t);
      refused = answer_refused _ _ c.check_different_sheet.ensures _ (different_refused (shown rule x) (shown rule y) rows s t);
      decides = different_sheets (shown rule x) (shown rule y) (shown_lawful rule x (g.S.System.lawful c.args.left.now)) (shown_lawful rule y (g.T.System.lawful c.args.right.now)) s t;
    }
