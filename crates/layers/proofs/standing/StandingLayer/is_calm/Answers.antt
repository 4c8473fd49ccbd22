use Rattle.std.proofs.Common.{rules, not, eqb, refl, ◌∙◌, ◌&&◌, arith}
use Rattle.std.proofs.lemmas.Iterator.Consumers.{YieldsList-from_first, YieldsList-at}
use Rattle.std.proofs.lemmas.Iterator.Search.{all_from_yields_List}
use Rattle.std.proofs.lemmas.List.Recursion.{same_from_clauses}
use Rattle.std.specs.List.{list_all}
use Rattle.theory.specs.Systems.{Move}
use Rattle.theory.specs.Layers.{patient}
use Rattle.actions.specs.Transitions.{move_of}
use Rattle.systems.specs.Ahead.{ahead}
use Rattle.filters.proofs.Counted.{whole_from_take}
use Rattle.layers.proofs.standing.StandingLayer.is_calm.Goals as goal

pub returns : goal.returns
returns g c =
    let ms = (g.S.System.meaning c.args.system.now).moves c.args.s in
    all_from_yields_List (λ (m : Move). not (eqb m.0 1)) c.all.new.self _ c.all.result c.all.ensures.ran
    (whole_from_take
    (YieldsList-at c.take.ensures.source (YieldsList-from_first move_of (λ x. ahead (g.S.System.meaning x.system.now) x.s x.k) ms c.transitions_of.ensures)) (omega (arith, c.take.ensures.count, c.count.ensures)))
    (λ x b q k. search rules)
    ∙ same_from_clauses (list_all (λ (m : Move). not (eqb m.0 1))) patient (λ m b. not (eqb m.0 1) && b) refl (λ _ _. refl) (λ _ _. refl) ms
