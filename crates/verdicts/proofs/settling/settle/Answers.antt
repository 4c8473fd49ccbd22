use Rattle.std.proofs.Common.{Ok, sym, ◌∙◌, subst}
use Rattle.theory.specs.Layers.{shown}
use Rattle.comparison.specs.Comparisons.{RunGoesOn}
use Rattle.verdicts.specs.Decisions.{EndsRun, LeftBy}
use Rattle.verdicts.proofs.Histories.{final_cells, swept_past}
use Rattle.verdicts.proofs.settling.settle.Goals as goal

pub returns-in-Ok-Done-clause-cells : goal.returns-in-Ok-Done-clause-cells
returns-in-Ok-Done-clause-cells g c =
    let y = g.Y.Layer.rule in
    let A = g.S.System.meaning c.args.left.now in
    let B = g.T.System.meaning c.args.right.now in
    let new = c.sweep.new.cells in
    let e = c.in-Ok-Done.ensures in
    let M = shown y A in
    let N = shown y B in
    let settled : EndsRun M N c.in-Ok-Done.settled new = subst (λ step. RunGoesOn M N (Ok step) new) c.in-Ok-Done.field-0-is (e.law c.loop-next.invariant.1) in
    subst (λ f. LeftBy f y A B c.args.cells.now new) (sym c.loop-next.invariant.0) (
      final_cells y A B (g.S.System.lawful c.args.left.now) (g.T.System.lawful c.args.right.now) c.in-Ok-Done.settled.progress.made new settled.3,
      λ i l. swept_past M N c.loop-next.current.progress c.loop-next.cells new e.cells i l ∙ c.loop-next.invariant.2 i l,
    )
