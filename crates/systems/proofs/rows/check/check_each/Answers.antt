use Rattle.std.proofs.Common.{sym, ap}
use Rattle.std.proofs.lemmas.Result.{err_from_is_err_and}
use Rattle.theory.specs.Faults.{passed}
use Rattle.theory.proofs.Faults.{refused_here, passed_here, passed_all}
use Rattle.systems.specs.Rows.{row_fault}
use Rattle.systems.proofs.rows.check.check_each.Goals as goal

pub returns-in_err-read : goal.returns-in_err-read
returns-in_err-read c =
    let p = err_from_is_err_and c.from_residual.result c.from_residual.ensures.1 in
    rw (p.1, p.2) (refused_here (row_fault c.args.n) c.args.rows.now c.loop-i.i c.loop-i.invariant _ c.in_err-read.field-0.0 c.loop-i-test.true (sym (ap passed c.in_err-read.ensures)))

pub loop-i-preserved : goal.loop-i-preserved
loop-i-preserved c = passed_here (row_fault c.args.n) c.args.rows.now c.loop-i.i c.loop-i.invariant _ _ c.loop-i-test.true (sym (ap passed c.in_ok-read.ensures.0))

pub returns : goal.returns
returns c = passed_all (row_fault c.args.n) c.args.rows.now c.loop-i.i c.loop-i.invariant c.loop-i-test.false
