use Rattle.std.proofs.Common.{List, [], ◌∷◌, ◌++◌, vec_items, sym, ap, ◌∙◌, subst, ap₂, arith}
use Rattle.std.proofs.lemmas.List.{get_or_append_left, get_or_push, take_all, map-append}
use Rattle.designs.specs.Forms.{Form}
use Rattle.designs.specs.Tables.{Sound}
use Rattle.designs.specs.Shapes.{Shaped}
use Rattle.designs.specs.Nodes.{forms}
use Rattle.designs.specs.Operations.{form_of, forms_in}
use Rattle.designs.specs.declared.entry.Entry.{Entry}
use Rattle.designs.proofs.Readings.{forms_sound, forms_more}
use Rattle.designs.proofs.Checking.{all_small, shape_at, shaped_more, blank}
use Rattle.designs.proofs.outline.Outline.of.Goals as goal

pub shape_of-shape-requires-in-loop-i-clause-small : goal.shape_of-shape-requires-in-loop-i-clause-small
shape_of-shape-requires-in-loop-i-clause-small c =
    let i = c.loop-i.i in
    let v = c.loop-i.invariant in
    all_small c.args.nodes.now c.as_slice.result.now i c.loop-i-test.true (omega (arith, c.as_slice.ensures.len)) (subst (λ (es : List Entry). Shaped (forms c.args.nodes.now) es i) (sym c.as_slice.ensures.value) v.2)

pub loop-i-preserved : goal.loop-i-preserved
loop-i-preserved c =
    let xs = c.args.nodes.now in
    let i = c.loop-i.i in
    let es = vec_items c.loop-i.entries in
    let v = c.loop-i.invariant in
    let r : Entry = record { operation = c.operation_or_nil-operation.result; shape = c.shape_of-shape.result } in
    let pushed = c.in_ok-push.ensures.items in
    let add : List Form → Form → List Form = λ fs f. fs ++ (f ∷ []) in (
      ap forms_in pushed ∙ map-append (λ (e : Entry). form_of e.operation) es (r ∷ []) ∙ ap₂ add v.0 c.operation_or_nil-operation.ensures ∙ sym (forms_more xs i blank c.loop-i-test.true),
      omega (arith, c.in_ok-push.ensures.len),
      shaped_more (forms xs) es _ i r v.2
          (shape_at xs c.as_slice.result.now i c.loop-i-test.true (omega (arith, c.as_slice.ensures.len)) (subst (λ (fs : List Entry). Shaped (forms xs) fs i) (sym c.as_slice.ensures.value) v.2) blank _ _ c.operation_or_nil-operation.ensures c.shape_of-shape.ensures)
          (λ j d h. let q = get_or_append_left es (r ∷ []) d j (omega arith) in rw pushed q)
          (λ d. let q = get_or_push es r d i (omega arith) in rw pushed q),
    )

pub invariant_of-result : goal.invariant_of-result
invariant_of-result c =
    let xs = c.args.nodes.now in
    let v = c.loop-i.invariant in
    let all = v.0 ∙ ap forms (take_all c.loop-i.i xs c.loop-i-test.false) in
    record {
      sound = subst Sound (sym all) (forms_sound xs);
      shaped = λ j e h. subst (λ (fs : List Form). Shaped fs (vec_items c.loop-i.entries) c.loop-i.i) (sym all) v.2 j e (omega arith);
    }
