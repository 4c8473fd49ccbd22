use Rattle.std.proofs.Common.{◌≡◌, ◌*◌, length, Ok, ap, ◌∙◌}
use Rattle.theory.specs.Layers.{shown}
use Rattle.theory.proofs.Laws.{shown_lawful}
use Rattle.certificates.specs.Listings.{is_zero, equal_listing}
use Rattle.writers.specs.Writes.{cell_of}
use Rattle.writers.proofs.Laws.{equal_law, equal_found}
use Rattle.writers.proofs.equal.write_equal.Goals as goal

pub returns-in-Equal-clause-law : goal.returns-in-Equal-clause-law
returns-in-Equal-clause-law g c =
    let rule = g.Y.Layer.rule in
    let x = g.S.System.meaning c.args.left.now in
    let y = g.T.System.meaning c.args.right.now in
    let o = c.args.settled.now.progress in
    let cells = c.args.cells.now in
    let rows = c.args.rows.now in
    let listing = equal_listing y.n (is_zero (cell_of cells)) (x.n * y.n) in
    equal_law (shown rule x) (shown rule y) (shown_lawful rule x (g.S.System.lawful c.args.left.now)) (shown_lawful rule y (g.T.System.lawful c.args.right.now)) o.n1 o.n2 o.made cells c.args.s c.args.t c.verdict.result c.verdict.ensures.law rows c.list_kept.new.rows c.list_kept.result c.list_kept.auto.rows
    (equal_found c.verdict.result (c.in_ok-verdict.was ∙ ap Ok c.in-Equal.is) (length listing) (length rows) (λ list. list ≡ listing) rows c.list_kept.new.rows c.list_kept.result c.list_kept.ensures)
