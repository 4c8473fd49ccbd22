use Rattle.theory.specs.Operators.{open_move}
use Rattle.move_lists.specs.MoveLists.{held}
use Rattle.move_lists.proofs.Sounds.{below, kept_below, inside_below}
use Rattle.move_lists.proofs.list.MoveList.kept.Goals as goal

pub invariant_of-result : goal.invariant_of-result
invariant_of-result c =
    let x = c.args.self.now in
    record { few = x.few; inside = inside_below x.states _ _ c.in_ok-kept.ensures (rw c.deref.ensures.value (kept_below x.states (open_move c.args.pair.first c.args.pair.second) (held x) (below x))) }
