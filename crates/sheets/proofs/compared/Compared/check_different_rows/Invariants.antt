use Rattle.std.proofs.Common.{◌≡◌, ℕ, false, drop, map, take}
use Rattle.theory.specs.Layers.{shown}
use Rattle.theory.specs.Faults.{first_fault}
use Rattle.certificates.specs.declared.rows.DifferentRow.{DifferentRow}
use Rattle.certificates.specs.DifferentSheets.{pair_of, earlier, different_row_fault}
use Rattle.sheets.proofs.PairSets.{Gathered}
use Rattle.sheets.proofs.compared.Compared.check_different_rows.Given as goal

abbrev pub invariant-loop-i : goal.invariant-loop-i
invariant-loop-i g l =
    let q = λ (i : ℕ) (at : DifferentRow). different_row_fault (shown g.Y.Layer.rule (g.S.System.meaning l.self.left.now)) (shown g.Y.Layer.rule (g.T.System.meaning l.self.right.now)) (earlier l.rows i) i at in
    let n1 = (g.S.System.meaning l.self.left.now).n in
    let n2 = (g.T.System.meaning l.self.right.now).n in
    (l.pairs.n1 ≡ n1) × (l.pairs.n2 ≡ n2) × Gathered n1 n2 (λ a b. false) l.pairs.words (map pair_of (take l.i l.rows))
    × (first_fault q 0 l.rows ≡ first_fault q l.i (drop l.i l.rows))
