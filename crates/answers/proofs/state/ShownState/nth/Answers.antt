use Rattle.std.proofs.Common.{rules, filter, ap, ◌∙◌, subst}
use Rattle.std.proofs.lemmas.Iterator.Consumers.{nth_from_yields_List, YieldsList-from_filter, YieldsList-from_first, YieldsList-at}
use Rattle.theory.specs.Layers.{keeps_move}
use Rattle.actions.specs.Transitions.{move_of, Kth}
use Rattle.actions.proofs.Kths.{kth_from_get}
use Rattle.systems.specs.Ahead.{ahead}
use Rattle.answers.proofs.state.ShownState.nth.Goals as goal

pub returns : goal.returns
returns g c =
    let y = g.Y.Layer.rule in
    let o = c.args.self in
    let ms = (g.S.System.meaning o.system.now).moves o.s in
    subst (λ b. Kth (filter (keeps_move y b) ms) c.args.k c.nth.result) o.calm_is
    (kth_from_get (filter (keeps_move y o.calm) ms) c.args.k c.nth.result
    (nth_from_yields_List {s = c.filter.result} _ c.nth.new.self _ c.nth.ensures.ran
    (YieldsList-from_filter _ (keeps_move y o.calm)
    (YieldsList-at c.filter.ensures.source
    (YieldsList-from_first move_of (λ x. ahead (g.S.System.meaning x.system.now) x.s x.k) ms c.transitions_of.ensures))
    c.filter.ensures.closure (λ x b q k. search rules))))
