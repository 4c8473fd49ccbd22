use Rattle.std.proofs.Common.{◌≤◌, length, get_or, ◌∙◌, arith, length-set}
use Rattle.std.proofs.lemmas.List.{get_or-set_same, get_or-set_other, length-take-le}
use Rattle.designs.specs.Nodes.{forms}
use Rattle.designs.proofs.Readings.{faultless_form}
use Rattle.designs.proofs.Checking.{faultless_more, all_small, shape_at, shaped_front, shaped_more, count_bounds, blank}
use Rattle.designs.proofs.check.last_shape.Goals as goal

pub shape_of-shape-requires-in-loop-i-clause-small : goal.shape_of-shape-requires-in-loop-i-clause-small
shape_of-shape-requires-in-loop-i-clause-small c =
    let i = c.loop-i.i in
    let es = c.loop-i.entries in
    let room : i ≤ length es = omega (arith, count_bounds c.args.nodes.now c.requires) in
    all_small c.args.nodes.now _ i c.loop-i-test.true (length-take-le i es room) (shaped_front (forms c.args.nodes.now) es i c.loop-i.invariant.1)

pub loop-i-preserved : goal.loop-i-preserved
loop-i-preserved c =
    let xs = c.args.nodes.now in
    let i = c.loop-i.i in
    let es = c.loop-i.entries in
    let h = c.loop-i-test.true in
    let v = c.loop-i.invariant in
    let e = c.in_ok-operation.ensures in
    let room : i ≤ length es = omega (arith, count_bounds xs c.requires) in (
      faultless_more xs i blank h v.0 e.0,
      shaped_more (forms xs) es _ i _ v.1
          (shape_at xs _ i h (length-take-le i es room) (shaped_front (forms xs) es i v.1) blank _ _ (e.1 ∙ faultless_form i (get_or xs i blank) e.0) c.shape_of-shape.ensures)
          (λ j d l. get_or-set_other es i j _ d (λ q. omega arith))
          (λ d. get_or-set_same es i _ d (omega (arith, count_bounds xs c.requires))),
      length-set es i _ ∙ v.2,
    )
