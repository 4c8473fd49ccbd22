use Rattle.std.proofs.Common.{◌≡◌, List, ℕ, map, length, ap, ◌∙◌, arith}
use Rattle.std.proofs.lemmas.List.{length-take-le}
use Rattle.std.specs.Int.{w16, from_be_bytes}
use Rattle.designs.specs.declared.node.Node.{Node}
use Rattle.files.specs.Layouts.{field, node_at}
use Rattle.files.proofs.Bytes.{word, counted_nodes}
use Rattle.files.proofs.layout.counted.Goals as goal

pub returns : goal.returns
returns c =
    let bytes = c.args.bytes.now in
    let p = c.in_ok-count.ensures.cases in
    let q = c.in_ok-nodes.ensures.cases in
    let node : List (List ℕ) → List Node = λ xs. map (λ x. node_at x 0) xs in
    let count : from_be_bytes w16 c.in_ok-count.count.now ≡ field bytes 0 2 = word _ (ap length p.0 ∙ length-take-le 2 bytes (omega arith)) ∙ rw p.0 in
    let cut = counted_nodes bytes _ _ _ _ p.1 q.0 q.1 q.2 (omega (arith, count)) in
    (omega (arith, count), ap node c.as_chunks.ensures.front ∙ cut.0, cut.1)
