use Rattle.std.proofs.Common.{ℕ, ◌*◌, cond, [], length, take, Some, None, ap, arith, rules}
use Rattle.std.proofs.lemmas.List.{length-map}
use Rattle.std.proofs.lemmas.Bool.{le-leb}
use Rattle.certificates.specs.Listings.{is_zero, numbers, pair_at, equal_listing}
use Rattle.writers.specs.declared.refusal.WriteRefusal.TheVariants.{FewRows}
use Rattle.writers.specs.Writes.{cell_of}
use Rattle.writers.proofs.Fills.{filled_none, filled_total}
use Rattle.writers.proofs.cells.PairCells.list_kept.Goals as goal

pub returns : goal.returns
returns g c =
    let s = c.args.self.now in
    let n2 = (g.T.System.meaning s.right.now).n in
    let n = (g.S.System.meaning s.left.now).n * n2 in
    let nums = numbers (is_zero (cell_of s.cells.now)) n in
    let f = λ (i : ℕ). Some (pair_at n2 i) in
    let h = c.fill_round.ensures f (λ i r l q. search rules) [] c.args.rows.now (filled_none f c.args.rows.now) in (
      ap (λ v. cond v None (Some FewRows)) (le-leb (length (equal_listing n2 (is_zero (cell_of s.cells.now)) n)) (length c.args.rows.now) (omega (arith, c.if-count_round-rows.false, c.count_round.ensures, length-map nums (pair_at n2)))),
      h.within,
      filled_total (pair_at n2) nums (take c.fill_round.result c.fill_round.new.rows) h.rows,
      h.rest,
    )
