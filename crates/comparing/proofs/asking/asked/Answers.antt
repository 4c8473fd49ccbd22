use Rattle.std.proofs.Common.{vec_items, rules}
use Rattle.designs.specs.Checks.{Passed}
use Rattle.comparing.proofs.Verdicts.{answered_by}
use Rattle.comparing.proofs.asking.asked.Goals as goal

pub returns : goal.returns
returns c =
    let xs = vec_items c.in_ok-pair.pair.first in
    let ys = vec_items c.in_ok-pair.pair.second in
    let e = c.in_ok-pair.ensures in
    let first : Passed xs = search rules in
    let second : Passed ys = search rules in
    answered_by c.args.bytes.now xs ys c.in_ok-compare_nodes.field-0 e.0 e.1 e.2 first second c.in_ok-compare_nodes.ensures
