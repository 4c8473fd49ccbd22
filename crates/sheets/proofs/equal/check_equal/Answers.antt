use Rattle.theory.specs.Layers.{shown}
use Rattle.theory.proofs.Laws.{shown_lawful}
use Rattle.certificates.proofs.EqualTold.{equal_accepted, equal_refused}
use Rattle.certificates.proofs.EqualListings.{equal_sheets}
use Rattle.sheets.proofs.Rows.{answer_accepted, answer_refused}
use Rattle.sheets.proofs.equal.check_equal.Goals as goal

pub returns : goal.returns
returns g c =
    let rule = g.Y.Layer.rule in
    let x = g.S.System.meaning c.args.left.now in
    let y = g.T.System.meaning c.args.right.now in
    let rows = c.args.rows.now in
    let s = c.args.s in
    let t = c.args.t in
    record {
      accepted = answer_accepted _ _ c.check_equal_sheet.ensures _ (equal_accepted (shown rule x) (shown rule y) rows s t);
      refused = answer_refused _ _ c.check_equal_sheet.ensures _ (equal_refused (shown rule x) (shown rule y) rows s t);
      decides = equal_sheets (shown rule x) (shown rule y) (shown_lawful rule x (g.S.System.lawful c.args.left.now)) (shown_lawful rule y (g.T.System.lawful c.args.right.now)) s t;
    }
