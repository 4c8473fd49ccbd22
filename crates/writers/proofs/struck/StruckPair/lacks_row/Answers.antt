use Rattle.std.proofs.Common.{ℕ, ◌*◌, Bool, ◌&&◌, length, refl, ◌∙◌, arith, rules}
use Rattle.std.specs.List.{range_with_len}
use Rattle.std.proofs.lemmas.Iterator.{YieldsList-from_range}
use Rattle.std.proofs.lemmas.Iterator.Search.{any_from_yields_List}
use Rattle.theory.specs.Layers.{shown}
use Rattle.certificates.specs.Listings.{cell_entry}
use Rattle.answers.proofs.Searches.{some_is_any}
use Rattle.writers.specs.Writes.{cell_of, is_none, named}
use Rattle.writers.proofs.Entries.{missing_named}
use Rattle.writers.proofs.struck.StruckPair.lacks_row.Goals as goal

pub returns : goal.returns
returns g c =
    let q = c.args.self.now in
    let p = q.compared in
    let n = (g.S.System.meaning p.left.now).n * (g.T.System.meaning p.right.now).n in
    let cell = cell_of p.cells.now in
    let f : ℕ → Bool = λ i. is_none (cell_entry (shown g.Y.Layer.rule (g.S.System.meaning p.left.now)) (shown g.Y.Layer.rule (g.T.System.meaning p.right.now)) cell i) in
    let test : ℕ → Bool = λ i. named cell q.pair i && f i in
    any_from_yields_List test c.any.new.self _ c.any.result c.any.ensures.ran
    (YieldsList-from_range 0 (length c.of_pairs.result.now) n refl (omega (arith, c.of_pairs.ensures.count)))
    (λ x b f' k. search rules)
    ∙ some_is_any test (range_with_len 0 n)
    ∙ missing_named cell n q.pair q.inside q.struck f
