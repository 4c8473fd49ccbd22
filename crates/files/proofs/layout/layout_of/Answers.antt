use Rattle.std.proofs.Common.{◌∙◌, arith, rules}
use Rattle.files.proofs.Layings.{Cut, no_fault, a_fault, first_at, second_at}
use Rattle.files.proofs.layout.layout_of.Goals as goal

pub returns-then-is_empty : goal.returns-then-is_empty
returns-then-is_empty c =
    let p = rw c.in_ok-rest.ensures.ok_part at c.strip_prefix.ensures.cases in
    let q = rw c.in_ok-rest-2.ensures.ok_part at c.strip_prefix-2.ensures.cases in
    let u = rw c.in_ok-first.ensures.ok_part at c.counted.ensures in
    let v = rw c.in_ok-second.ensures.ok_part at c.counted-2.ensures in
    let C : Cut c.args.bytes.now c.in_ok-rest.rest.now c.in_ok-rest-2.rest.now c.in_ok-first.rest.now c.in_ok-second.rest.now = record { mark = p.0; unmarked = p.1; version = q.0; body = q.1; few = omega arith; first = u.0; after = u.2; second = v.0; end = v.2 } in
    (no_fault C (search rules), u.1 ∙ first_at C, v.1 ∙ second_at C)

pub returns-else-is_empty : goal.returns-else-is_empty
returns-else-is_empty c =
    let p = rw c.in_ok-rest.ensures.ok_part at c.strip_prefix.ensures.cases in
    let q = rw c.in_ok-rest-2.ensures.ok_part at c.strip_prefix-2.ensures.cases in
    let u = rw c.in_ok-first.ensures.ok_part at c.counted.ensures in
    let v = rw c.in_ok-second.ensures.ok_part at c.counted-2.ensures in
    let C : Cut c.args.bytes.now c.in_ok-rest.rest.now c.in_ok-rest-2.rest.now c.in_ok-first.rest.now c.in_ok-second.rest.now = record { mark = p.0; unmarked = p.1; version = q.0; body = q.1; few = omega arith; first = u.0; after = u.2; second = v.0; end = v.2 } in
    a_fault C (search rules)
