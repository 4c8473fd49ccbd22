use Rattle.std.proofs.Common.{◌≡◌, drop}
use Rattle.theory.specs.Layers.{shown}
use Rattle.theory.specs.Faults.{first_fault}
use Rattle.certificates.specs.EqualSheets.{equal_row_fault}
use Rattle.sheets.proofs.compared.Compared.check_equal_rows.Given as goal

abbrev pub invariant-loop-i : goal.invariant-loop-i
invariant-loop-i g l =
    let q = equal_row_fault (shown g.Y.Layer.rule (g.S.System.meaning l.self.left.now)) (shown g.Y.Layer.rule (g.T.System.meaning l.self.right.now)) (g.P.Held.holds l.pairs) in
    first_fault q 0 l.rows ≡ first_fault q l.i (drop l.i l.rows)
