use Rattle.std.proofs.Common.{ap, ◌∙◌, vec_items}
use Rattle.designs.specs.Nodes.{written}
use Rattle.design_moves.specs.WrittenDesigns.{meant}
use Rattle.comparing.proofs.Verdicts.{starts_as}
use Rattle.comparing.proofs.judging.compare_nodes.Goals as goal

pub judge-requires-clause-first : goal.judge-requires-clause-first
judge-requires-clause-first c = starts_as (vec_items c.args.pair.now.first) (meant c.in_ok-left.left) (c.in_ok-left.ensures.meaning ∙ ap written c.as_slice.ensures.value) c.requires.first

pub judge-requires-clause-second : goal.judge-requires-clause-second
judge-requires-clause-second c = starts_as (vec_items c.args.pair.now.second) (meant c.in_ok-right.right) (c.in_ok-right.ensures.meaning ∙ ap written c.as_slice-2.ensures.value) c.requires.second
