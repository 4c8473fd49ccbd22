use Rattle.std.proofs.Common.{◌≡◌, ℕ, ◌*◌, ◌≤◌, length, eqb, filter, take, ◌∙◌, ap₂, rules, tests}
use Rattle.std.proofs.lemmas.List.Sums.{length-filter}
use Rattle.std.proofs.lemmas.Iterator.{YieldsList-from_slice}
use Rattle.std.proofs.lemmas.Iterator.Consumers.{YieldsList-at, YieldsList-from_filter, count_from_yields_List}
use Rattle.design_moves.specs.WrittenDesigns.{meant}
use Rattle.comparing.specs.Zeros.{passing, is_zero}
use Rattle.comparing.proofs.Counts.{zeros_below}
use Rattle.comparing.proofs.Verdicts.{settles_equal}
use Rattle.comparing.proofs.judging.judge.Goals as goal

pub returns-in-Equal : goal.returns-in-Equal
returns-in-Equal c =
    let d = meant c.args.left.now in
    let e = meant c.args.right.now in
    let cells = c.decide.new.cells in
    let a = c.in-Ok.ensures.answer in
    let n = c.states.result * c.states-in-Equal.result in
    let room : n ≤ length cells = search rules in
    let zeros : c.count-zeros.result ≡ length (filter (λ x. eqb x 0) (take n cells)) =
    count_from_yields_List _ _ c.count-zeros.ensures.ran (YieldsList-from_filter _ (λ x. eqb x 0) (YieldsList-at c.filter.ensures.source (YieldsList-from_slice (take n cells) c.iter.ensures.rest)) c.filter.ensures.closure (λ x b q k. search (rules, tests))) in
    let both : ℕ → ℕ → ℕ = λ i j. passing (is_zero cells) (i * j) in
    settles_equal d e c.start.result c.start-2.result c.args.cells.now cells c.requires.size c.start.ensures c.start-2.ensures c.requires.first c.requires.second c.in-Ok.decision.sweeps c.in-Ok.decision.verdict a.0 a.1 a.2 c.in-Ok.ensures.cells c.in-Equal.is _
    (zeros ∙ length-filter (λ x. eqb x 0) (take n cells) ∙ zeros_below cells n room ∙ ap₂ both c.states.ensures c.states-in-Equal.ensures)
