use Rattle.move_lists.specs.MoveLists.{held}
use Rattle.move_lists.proofs.Sounds.{below, recoded_below, inside_below}
use Rattle.move_lists.proofs.list.MoveList.changed_by.Goals as goal

pub invariant_of-result : goal.invariant_of-result
invariant_of-result g c =
    let x = c.args.self.now in
    record { few = x.few; inside = inside_below x.states _ _ c.in_ok-changed_by.ensures (rw c.deref.ensures.value (recoded_below x.states (g.R.Recodes.code c.args.by.now) (held x) (below x))) }
