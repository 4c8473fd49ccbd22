use Rattle.std.proofs.Common.{sym, ◌∙◌, rules}
use Rattle.std.proofs.lemmas.Result.{IfOk-weaker}
use Rattle.std.proofs.lemmas.Simd.{map-map}
use Rattle.std.proofs.lemmas.Iterator.{YieldsList-from_slice, YieldsList-from_map_by}
use Rattle.std.proofs.lemmas.Iterator.Consumers.{YieldsList-at, map_from_collect}
use Rattle.theory.specs.Operators.{recoded}
use Rattle.actions.specs.Transitions.{move_of}
use Rattle.move_lists.proofs.recoding.changed_by.Goals as goal

pub returns : goal.returns
returns g c =
    let ms = c.args.ms.now in
    let f = recoded (g.R.Recodes.code c.args.by.now) in
    IfOk-weaker c.collect.result _ _ (λ v e. e ∙ sym (map-map f move_of ms))
    (map_from_collect _ c.collect.ensures.ran
    (YieldsList-from_map_by _ move_of (λ m. f (move_of m)) (YieldsList-at c.map.ensures.source (YieldsList-from_slice ms cc)) c.map.ensures.closure (λ m r q k. search rules)))
