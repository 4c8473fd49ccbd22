use Rattle.std.proofs.Common.{◌+◌, ◌*◌, ◌<◌, length, Ok, sym, ap, ◌∙◌, subst}
use Rattle.theory.specs.Layers.{shown}
use Rattle.theory.proofs.Laws.{shown_lawful}
use Rattle.certificates.proofs.EqualListings.{number_below}
use Rattle.writers.specs.Writes.{cell_of}
use Rattle.writers.proofs.Laws.{different_law, different_verdict, different_found}
use Rattle.writers.proofs.different.write_different.Goals as goal

pub invariant_of-asked-clause-inside : goal.invariant_of-asked-clause-inside
invariant_of-asked-clause-inside g c =
    let x = g.S.System.meaning c.args.left.now in
    let y = g.T.System.meaning c.args.right.now in
    let s = c.args.s in
    let t = c.args.t in
    let k = different_verdict c.args.settled.now.progress x.n y.n c.args.cells.now s t c.in-Different.field-0 (sym c.verdict.ensures.answer ∙ c.in_ok-verdict.was ∙ ap Ok c.in-Different.is) in
    subst (λ m. s * m + t < x.n * y.n) (sym c.states.ensures) (number_below x.n y.n s t k.1 k.2)

pub returns-in-Different-clause-law : goal.returns-in-Different-clause-law
returns-in-Different-clause-law g c =
    let rule = g.Y.Layer.rule in
    let x = g.S.System.meaning c.args.left.now in
    let y = g.T.System.meaning c.args.right.now in
    let a = shown rule x in
    let b = shown rule y in
    let o = c.args.settled.now.progress in
    let s = c.args.s in
    let t = c.args.t in
    let cells = c.args.cells.now in
    let rows = c.args.rows.now in
    different_law a b (shown_lawful rule x (g.S.System.lawful c.args.left.now)) (shown_lawful rule y (g.T.System.lawful c.args.right.now)) o.n1 o.n2 o.made cells s t c.verdict.result c.verdict.ensures.law rows c.list.new.rows c.list.result c.list.auto.rows
    (different_found a b (cell_of cells) c.verdict.result c.in-Different.field-0 (c.in_ok-verdict.was ∙ ap Ok c.in-Different.is) (s * c.states.result + t) (s * y.n + t) (length rows) (ap (λ m. s * m + t) c.states.ensures) rows c.list.new.rows c.list.result c.list.ensures)
