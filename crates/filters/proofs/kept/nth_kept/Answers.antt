use Rattle.std.proofs.Common.{rules}
use Rattle.std.proofs.lemmas.Iterator.Consumers.{nth_from_yields_List, YieldsList-from_filter, YieldsList-from_first, YieldsList-at}
use Rattle.actions.specs.Transitions.{move_of}
use Rattle.actions.proofs.Kths.{kth_from_get}
use Rattle.systems.specs.Ahead.{ahead}
use Rattle.filters.specs.Kept.{by_code, kept}
use Rattle.filters.proofs.kept.nth_kept.Goals as goal

pub returns : goal.returns
returns g c =
    let ms = (g.S.System.meaning c.args.system.now).moves c.args.s in
    let p = g.P.Keeps.passes c.args.test.now in
    kth_from_get (kept p ms) c.args.k c.nth.result
    (nth_from_yields_List {s = c.filter.result} _ c.nth.new.self _ c.nth.ensures.ran
    (YieldsList-from_filter _ (by_code p)
    (YieldsList-at c.filter.ensures.source
    (YieldsList-from_first move_of (λ x. ahead (g.S.System.meaning x.system.now) x.s x.k) ms c.transitions_of.ensures))
    c.filter.ensures.closure (λ x b q k. search rules)))
