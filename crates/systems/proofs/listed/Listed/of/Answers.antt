use Rattle.std.proofs.Common.{length, map, vec_items, arith}
use Rattle.std.proofs.lemmas.List.{length-map}
use Rattle.systems.proofs.Listings.{Holds, holds_all, few, narrow, short, inside, empty, same}
use Rattle.systems.proofs.listed.Listed.of.Given as given
use Rattle.systems.proofs.listed.Listed.of.Goals as goal
use Rattle.systems.proofs.listed.Listed.of.Goals.{After-width}

held : (g : given.Over) (c : goal.After-width g) → Holds (g.L.Lists.meaning c.args.source.now) (length (vec_items c.loop-s.states)) c.width.result (map vec_items (vec_items c.loop-s.states))
held g c =
    let source = c.args.source.now in
    let lists = vec_items c.loop-s.states in
    holds_all (g.L.Lists.meaning source) (g.L.Lists.lawful source) (length lists) c.width.result (map vec_items lists) (length-map lists vec_items)
    (omega (arith, c.states-n.ensures, c.loop-s.invariant.0))
    c.width.ensures
    (λ j l. c.loop-s.invariant.1 j (omega (arith, c.loop-s.invariant.0)))

pub invariant_of-result : goal.invariant_of-result
invariant_of-result g c =
    let law = g.L.Lists.lawful c.args.source.now in
    let h = held g c in
    record { few = few law h; narrow = narrow law h; short = short law h; inside = inside law h; empty = empty law h }

pub returns : goal.returns
returns g c = same (held g (goal.at.returns g c).After-width)
