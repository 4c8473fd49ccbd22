use Rattle.std.proofs.Common.{◌*◌, cond, leb, length, Some, None, sym, refl, ap, ◌∙◌, arith}
use Rattle.std.proofs.lemmas.Bool.{lt-leb}
use Rattle.certificates.specs.Listings.{different_numbers}
use Rattle.writers.specs.declared.refusal.WriteRefusal.TheVariants.{NoMove, FewRows}
use Rattle.writers.specs.Writes.{cell_of}
use Rattle.writers.proofs.Sequences.{sheet_length}
use Rattle.writers.proofs.struck.StruckPair.list.Goals as goal

pub returns-then-count_lower-rows : goal.returns-then-count_lower-rows
returns-then-count_lower-rows g c =
    let q = c.args.self.now in
    let s = q.compared in
    let n = (g.S.System.meaning s.left.now).n * (g.T.System.meaning s.right.now).n in
    let cell = cell_of s.cells.now in
    let count = length (different_numbers cell n q.pair) in
    let len = length c.args.rows.now in (
      ap (λ b. cond b (Some NoMove) (cond (leb count len) None (Some FewRows))) (sym c.lacks_row.ensures ∙ c.if-lacks_row.false)
          ∙ ap (λ b. cond b None (Some FewRows)) (lt-leb count len (omega (arith, sheet_length cell n q.pair q.struck, c.count_lower.ensures, c.if-count_lower-rows.true))),
      refl,
    )

pub fill-requires-clause-room : goal.fill-requires-clause-room
fill-requires-clause-room g c =
    let q = c.args.self.now in
    let s = q.compared in
    let n = (g.S.System.meaning s.left.now).n * (g.T.System.meaning s.right.now).n in
    omega (arith, sheet_length (cell_of s.cells.now) n q.pair q.struck, c.count_lower.ensures, c.if-count_lower-rows.false)
