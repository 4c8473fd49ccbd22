use Rattle.std.proofs.Common.{◌≡◌, ◌+◌, ◌-◌, ◌*◌, length, None}
use Rattle.theory.specs.Layers.{shown}
use Rattle.comparison.specs.Comparisons.{begin_fault, OpenByRun}
use Rattle.verdicts.specs.Decisions.{Past}
use Rattle.verdicts.proofs.settling.settle.Given as goal

abbrev pub invariant-loop-next : goal.invariant-loop-next
invariant-loop-next g l =
    let A = g.S.System.meaning l.left in
    let B = g.T.System.meaning l.right in
    (begin_fault A.n B.n (length l.fn.cells) ≡ None)
    × OpenByRun (shown g.Y.Layer.rule A) (shown g.Y.Layer.rule B) l.current.progress l.cells
    × Past (A.n * B.n) l.fn.cells l.cells

-- No more sweeps are made than there are pairs, and one.
abbrev pub decreases-loop-next : goal.decreases-loop-next
decreases-loop-next g l = (g.S.System.meaning l.left).n * (g.T.System.meaning l.right).n + 1 - l.current.progress.made
