use Rattle.std.proofs.Common.{◌≡◌, length, rules, arith}
use Rattle.std.proofs.lemmas.Iterator.Consumers.{count_from_yields_List, YieldsList-from_filter, YieldsList-from_first, YieldsList-at}
use Rattle.actions.specs.Transitions.{move_of}
use Rattle.systems.specs.Ahead.{ahead}
use Rattle.filters.proofs.Counted.{whole_from_take}
use Rattle.filters.specs.Kept.{by_code, kept}
use Rattle.filters.proofs.kept.count_kept.Goals as goal

pub returns : goal.returns
returns g c =
    let ms = (g.S.System.meaning c.args.system.now).moves c.args.s in
    let passed : c.count-2.result ≡ length (kept (g.P.Keeps.passes c.args.test.now) ms) =
    count_from_yields_List _ _ c.count-2.ensures.ran
    (YieldsList-from_filter _ (by_code (g.P.Keeps.passes c.args.test.now))
    (YieldsList-at c.filter.ensures.source
    (whole_from_take
    (YieldsList-at c.take.ensures.source (YieldsList-from_first move_of (λ x. ahead (g.S.System.meaning x.system.now) x.s x.k) ms c.transitions_of.ensures)) (omega (arith, c.take.ensures.count, c.count.ensures))))
    c.filter.ensures.closure (λ x b q k. search rules)) in
    grind (arith, passed)
