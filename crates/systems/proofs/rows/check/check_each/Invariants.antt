use Rattle.std.proofs.Common.{◌≡◌, drop}
use Rattle.theory.specs.Faults.{first_fault}
use Rattle.systems.specs.Rows.{row_fault}
use Rattle.systems.proofs.rows.check.check_each.Given as goal

abbrev pub invariant-loop-i : goal.invariant-loop-i
invariant-loop-i l = first_fault (row_fault l.n) 0 l.rows ≡ first_fault (row_fault l.n) l.i (drop l.i l.rows)
