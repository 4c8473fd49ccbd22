use Rattle.std.proofs.Common.{◌≡◌, ◌<◌, ◌≤◌, length, take, rules, refl, ◌∙◌, arith}
use Rattle.std.proofs.lemmas.List.{length-take-le, get_or_append_left}
use Rattle.refinement.specs.Runs.{begun}
use Rattle.comparison.proofs.comparison.Open.begin.Goals as goal

pub returns-clause-law : goal.returns-clause-law
returns-clause-law g c =
    let n = c.count_pairs-pairs.result in
    let cells = c.args.cells.now in
    let enough : n ≤ length cells = search rules in
    let len : length (take n cells) ≡ n = length-take-le n cells enough in (
      c.states.ensures,
      c.states-2.ensures,
      search rules,
      begun (λ i l.
          let inside : i < length (take n cells) = omega (arith, len, c.count_pairs-pairs.ensures.product) in
          get_or_append_left c.fill.new.self _ 0 i (omega (arith, c.fill.ensures.len)) ∙ c.fill.ensures.clones i 0 inside refl),
    )
