use Rattle.std.proofs.Common.{arith}
use Rattle.std.proofs.lemmas.Result.{err_from_is_err_and}
use Rattle.designs.proofs.Checking.{refused_first, count_from}
use Rattle.designs.proofs.check.check_nodes.Goals as goal

pub returns-in_err-last : goal.returns-in_err-last
returns-in_err-last c =
    let p = err_from_is_err_and c.from_residual.result c.from_residual.ensures.1 in
    let xs = c.args.nodes.now in
    rw (p.1, p.2) (refused_first xs _ (count_from xs (omega (arith, c.if-many-lt1.false)) (omega (arith, c.if-many-gt-MOST_NODES.false))) c.in_err-last.ensures)
