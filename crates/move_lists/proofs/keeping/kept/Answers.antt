use Rattle.std.proofs.Common.{cond, Some, None, ap, ◌∙◌, rules, tests}
use Rattle.std.proofs.lemmas.Result.{IfOk-weaker}
use Rattle.std.proofs.lemmas.Iterator.{YieldsList-from_slice, items_from_collect}
use Rattle.std.proofs.lemmas.Iterator.Consumers.{YieldsList-at, YieldsList-from_filter_map}
use Rattle.theory.specs.Operators.{open_move}
use Rattle.actions.specs.Transitions.{move_of, moves_of}
use Rattle.move_lists.proofs.Chains.{kept_by_map}
use Rattle.move_lists.proofs.keeping.kept.Goals as goal

pub returns : goal.returns
returns c =
    let ms = c.args.ms.now in
    let p = open_move c.args.pair.first c.args.pair.second in
    IfOk-weaker c.collect.result _ _ (λ v e. ap moves_of e ∙ kept_by_map p ms)
    (items_from_collect _ c.collect.ensures.ran
    (YieldsList-from_filter_map _ (λ m. cond (p (move_of m)) (Some m) None) (YieldsList-at c.filter_map.ensures.source (YieldsList-from_slice ms cc)) c.filter_map.ensures.closure (λ m r q k. search (rules, tests))))
