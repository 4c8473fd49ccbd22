use Rattle.std.proofs.Common.{◌≡◌, ◌+◌, ◌*◌, eqb, length, get_or, Ok, sym, ap, ◌∙◌, arith}
use Rattle.theory.specs.Layers.{shown}
use Rattle.theory.proofs.Faults.{none_from_passed}
use Rattle.refinement.proofs.Grids.{cell_below}
use Rattle.refinement.proofs.Ranges.{shown_in_range}
use Rattle.refinement.proofs.Runs.{verdict_law}
use Rattle.comparison.specs.declared.comparison.Verdict.TheVariants.{Equal, Different}
use Rattle.comparison.specs.Comparisons.{verdict_of, verdict_fault, judged}
use Rattle.comparison.proofs.Verdicts.{asked_inside, apart, one, ok_cond}
use Rattle.comparison.proofs.comparison.Settled.verdict.Goals as goal

pub bounds-cells-s : goal.bounds-cells-s
bounds-cells-s g c =
    let n1 = (g.S.System.meaning c.args.left.now).n in
    let n2 = (g.T.System.meaning c.args.right.now).n in
    let none = none_from_passed (verdict_fault c.args.self.now.progress n1 n2 (length c.args.cells.now) c.args.s c.args.t) _ c.in_ok-check_verdict.ensures in
    let h = asked_inside _ n1 n2 (length c.args.cells.now) c.args.s c.args.t (sym none) in
    let e : c.args.s * c.states.result ≡ c.args.s * n2 = ap (λ n. c.args.s * n) c.states.ensures in
    omega (arith, cell_below n1 n2 c.args.s c.args.t h.1 h.2, h.0)

pub returns : goal.returns
returns g c =
    let o = c.args.self.now.progress in
    let A = g.S.System.meaning c.args.left.now in
    let B = g.T.System.meaning c.args.right.now in
    let M = shown g.Y.Layer.rule A in
    let N = shown g.Y.Layer.rule B in
    let cells = c.args.cells.now in
    let v = get_or cells (c.args.s * N.n + c.args.t) 0 in
    let read : c.of.result ≡ verdict_of v = c.of.ensures ∙ ap (λ n. verdict_of (get_or cells (c.args.s * n + c.args.t) 0)) c.states.ensures in
    let none = none_from_passed (verdict_fault o A.n B.n (length cells) c.args.s c.args.t) _ c.in_ok-check_verdict.ensures in
    record {
      answer = ap Ok read ∙ ap (λ f. judged f v) (sym none);
      law = verdict_law (Ok Equal) (λ v. Ok (Different v)) apart one M N (shown_in_range g.Y.Layer.rule A (g.S.System.lawful c.args.left.now)) (shown_in_range g.Y.Layer.rule B (g.T.System.lawful c.args.right.now)) o.n1 o.n2 o.made cells c.args.s c.args.t (Ok c.of.result) (λ _ _ _. ap Ok read ∙ ok_cond (eqb v 0) v);
    }
