-- From the nodes that were looked at to what the check answers.
use Rattle.std.proofs.Common.{◌≡◌, ℕ, ◌+◌, ◌<◌, ◌≤◌, Bool, true, false, cond, leb, List, length, get_or, take, Some, None, sym, ap, ◌∙◌, subst, inl, inr, arith}
use Rattle.std.proofs.lemmas.List.{get_or_default, get_or-take}
use Rattle.std.proofs.lemmas.Bool.{cases_lt, and_parts, and_from, leb-true, le-leb}
use Rattle.theory.specs.Designs.{Design}
use Rattle.designs.specs.Forms.{Form, Nil, below, lawful}
use Rattle.designs.specs.Tables.{built, design}
use Rattle.designs.specs.Shapes.{Small, ShapeOf, Shaped}
use Rattle.designs.specs.Nodes.{said, fault, form, forms, countable}
use Rattle.designs.specs.Refusals.{place}
use Rattle.designs.specs.Checks.{Faultless, FirstFault, Refused}
use Rattle.designs.specs.declared.entry.Entry.{Entry}
use Rattle.designs.specs.declared.node.Node.{Node}
use Rattle.designs.specs.declared.shape.Shape.{Shape}
use Rattle.designs.specs.declared.refusal.NodeRefusal.{NodeRefusal}
use Rattle.designs.specs.declared.refusal.NodeRefusal.TheVariants.{Kind, Children, Fields}
use Rattle.designs.proofs.DesignTables.{good, design_is}
use Rattle.designs.proofs.Sizes.{small}
use Rattle.designs.proofs.Readings.{form_at, forms_sound, length-forms}

-- a fault of a node at i is one of three, and names i
data Asked (i : ℕ) : NodeRefusal → Type 0 where
  kind : Asked i (Kind i)
  children : Asked i (Children i)
  fields : Asked i (Fields i)

asked_by : (k b l : Bool) (i : ℕ) (e : NodeRefusal) → cond k (cond b (cond l None (Some (Fields i))) (Some (Children i))) (Some (Kind i)) ≡ Some e → Asked i e
asked_by true true true i e h = let z : ◌≡◌ {A = ℕ} 0 1 = cc in let w : ⊥ = omega arith in elim w [ ]
asked_by true true false i e h = let q : Fields i ≡ e = cc in subst (Asked i) q fields
asked_by true false l i e h = let q : Children i ≡ e = cc in subst (Asked i) q children
asked_by false b l i e h = let q : Kind i ≡ e = cc in subst (Asked i) q kind

asked : (i : ℕ) (x : Node) (e : NodeRefusal) → fault i x ≡ Some e → Asked i e
asked i x e h = asked_by (leb x.kind 7) (below i (said x)) (lawful (said x)) i e h

-- what a read past the nodes would give
abbrev pub blank : Node
blank = record { kind = 0; code = 0; left = 0; right = 0; first = 0; second = 0 }

refused_asked : (xs : List Node) (i : ℕ) (e : NodeRefusal) → Asked i e → countable xs ≡ true → FirstFault xs e → Refused xs e
refused_asked xs i e kind c f = (c, f)
refused_asked xs i e children c f = (c, f)
refused_asked xs i e fields c f = (c, f)

pub refused_first : (xs : List Node) (e : NodeRefusal) → countable xs ≡ true → FirstFault xs e → Refused xs e
refused_first xs e c f = refused_asked xs (place e) e (asked (place e) (get_or xs (place e) blank) e (f.2 blank)) c f

-- one more node
pub faultless_more : (xs : List Node) (i : ℕ) (d : Node) → i < length xs → Faultless xs i → fault i (get_or xs i d) ≡ None → Faultless xs (i + 1)
faultless_more xs i d h before f j d' l = elim (cases_lt j i) [
  | inl k ↦ before j d' k
  | inr k ↦
      let q : i ≡ j = omega arith in
      let P : ℕ → Type 0 = λ n. fault n (get_or xs n d') ≡ None in
      subst P q (ap (fault i) (get_or_default xs i d' d h) ∙ f)
]

-- the shape of the node at i, from the entries of those before it
module _ (xs : List Node) (es : List Entry) (i : ℕ) (h : i < length xs) (len : length es ≡ i) (shaped : Shaped (forms xs) es i) where
  pub all_small : (j : ℕ) (e : Entry) → j < length es → Small (get_or es j e).shape
  all_small j e l = small (design (forms xs) j) (get_or es j e).shape (good (forms xs) (forms_sound xs) j) (shaped j e (omega arith))

  pub shape_at : (d : Node) (f : Form) (r : Shape) → f ≡ form i (get_or xs i d) → ((at : ℕ → Design) → ((j : ℕ) (e : Entry) → j < length es → ShapeOf (at j) (get_or es j e).shape) → ShapeOf (built at f) r) → ShapeOf (design (forms xs) i) r
  shape_at d f r e k =
      let q : get_or (forms xs) i Nil ≡ f = form_at xs i d h ∙ sym e in
      subst (λ (x : Design). ShapeOf x r) (sym (design_is (forms xs) (forms_sound xs) i (omega (arith, length-forms 0 xs)) f q)) (k (design (forms xs)) (λ j e l. shaped j e (omega arith)))

pub shaped_front : (fs : List Form) (es : List Entry) (i : ℕ) → Shaped fs es i → Shaped fs (take i es) i
shaped_front fs es i shaped j e l = subst (λ (x : Entry). ShapeOf (design fs j) x.shape) (sym (get_or-take i es j e l)) (shaped j e l)

pub shaped_more : (fs : List Form) (es es' : List Entry) (i : ℕ) (r : Entry) → Shaped fs es i → ShapeOf (design fs i) r.shape → ((j : ℕ) (e : Entry) → j < i → get_or es' j e ≡ get_or es j e) → ((e : Entry) → get_or es' i e ≡ r) → Shaped fs es' (i + 1)
shaped_more fs es es' i r shaped here old new j e l = elim (cases_lt j i) [
  | inl k ↦ subst (λ (x : Entry). ShapeOf (design fs j) x.shape) (sym (old j e k)) (shaped j e k)
  | inr k ↦
      let q : i ≡ j = omega arith in
      let P : ℕ → Type 0 = λ n. ShapeOf (design fs n) (get_or es' n e).shape in
      subst P q (subst (λ (x : Entry). ShapeOf (design fs i) x.shape) (sym (new e)) here)
]

pub count_bounds : (xs : List Node) → countable xs ≡ true → (1 ≤ length xs) × (length xs ≤ 256)
count_bounds xs e = let p = and_parts (leb 1 (length xs)) (leb (length xs) 256) e in (leb-true 1 (length xs) p.0, leb-true (length xs) 256 p.1)

pub count_from : (xs : List Node) → 1 ≤ length xs → length xs ≤ 256 → countable xs ≡ true
count_from xs h l = and_from (leb 1 (length xs)) (leb (length xs) 256) (le-leb 1 (length xs) h) (le-leb (length xs) 256 l)
