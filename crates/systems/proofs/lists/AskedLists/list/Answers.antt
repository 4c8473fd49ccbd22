use Rattle.std.proofs.Common.{◌++◌, length, Ok, ap, ◌∙◌, arith}
use Rattle.std.proofs.lemmas.List.{take_all}
use Rattle.std.proofs.lemmas.Iterator.{YieldsList-from_take}
use Rattle.std.proofs.lemmas.Iterator.Adapters.{fact_from_extend}
use Rattle.std.proofs.lemmas.Iterator.Consumers.{YieldsList-from_first, YieldsList-at}
use Rattle.std.specs.Iterator.Adapters.{take_source, take_count}
use Rattle.actions.specs.Transitions.{move_of, moves_of}
use Rattle.systems.specs.Ahead.{ahead}
use Rattle.systems.specs.declared.transitions.Transitions.{Transitions}
use Rattle.systems.proofs.lists.AskedLists.list.Goals as goal

pub returns : goal.returns
returns g c =
    let ms = (g.S.System.meaning c.args.self.now.system.now).moves c.args.s in
    let n = length ms in
    fact_from_extend {E = Unit {0}} move_of (Ok c.in_ok-extend.field-0) c.in_ok-extend.ensures.ran
    (λ it b. YieldsList-from_take n (YieldsList-at (ap take_source b ∙ c.take.ensures.source) (YieldsList-from_first move_of (λ (x : Transitions g.row.S.Denot). ahead (g.S.System.meaning x.system.now) x.s x.k) ms c.transitions_of.ensures)) (ap take_count b ∙ c.take.ensures.count ∙ c.count-count.ensures))
    (λ xs e h. ap moves_of (h.0 ∙ ap (λ vs. vs ++ xs) c.in_ok-list.ensures.items) ∙ e ∙ take_all n ms (omega arith))
