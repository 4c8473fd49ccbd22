-- The forms that nodes are read as.
use Rattle.std.proofs.Common.{◌≡◌, ℕ, zero, suc, ◌+◌, ◌-◌, ◌<◌, cond, ◌&&◌, leb, List, [], ◌∷◌, ◌++◌, length, get_or, take, Some, None, Ok, Err, Result, MatchResult, refl, ap, ◌∙◌, subst, arith}
use Rattle.std.specs.Result.{result_unwrap_or}
use Rattle.std.proofs.lemmas.List.{take_more, length-take-le}
use Rattle.std.proofs.lemmas.Bool.{cond_both, and_parts}
use Rattle.designs.specs.Forms.{Nil, below, lawful}
use Rattle.designs.specs.Tables.{Fine, Sound, design, whole, too_large}
use Rattle.designs.specs.Nodes.{said, fault, form, forms_from, forms, written}
use Rattle.designs.specs.Operations.{form_of}
use Rattle.designs.specs.declared.node.Node.{Node}
use Rattle.designs.specs.declared.refusal.NodeRefusal.{NodeRefusal}
use Rattle.designs.specs.declared.operation.Operation.{Operation}
use Rattle.designs.specs.declared.operation.Operation.TheVariants as operations

pub form_fine : (i : ℕ) (x : Node) → Fine i (form i x)
form_fine i x =
    let k = leb x.kind 7 in
    let b = below i (said x) in
    let l = lawful (said x) in
    cond_both (k && (b && l)) (said x) Nil (Fine i) (λ e. and_parts b l (and_parts k (b && l) e).1) (λ _. (refl, refl))

-- a node without a fault is what it says
pub faultless_form : (i : ℕ) (x : Node) → fault i x ≡ None → said x ≡ form i x
faultless_form i x e =
    let k = leb x.kind 7 in
    let b = below i (said x) in
    let l = lawful (said x) in
    grind arith

faulty_form : (i : ℕ) (x : Node) (e : NodeRefusal) → fault i x ≡ Some e → Nil ≡ form i x
faulty_form i x e h =
    let k = leb x.kind 7 in
    let b = below i (said x) in
    let l = lawful (said x) in
    grind arith

-- what is read, or nil in place of a refusal
pub or_nil : (i : ℕ) (x : Node) (r : Result Operation NodeRefusal) → MatchResult r (λ o. (fault i x ≡ None) × (form_of o ≡ said x)) (λ e. fault i x ≡ Some e) → form_of (result_unwrap_or r operations.Nil) ≡ form i x
or_nil i x (Ok o) h = h.1 ∙ faultless_form i x h.0
or_nil i x (Err e) h = faulty_form i x e h

pub length-forms : (k : ℕ) (xs : List Node) → length (forms_from k xs) ≡ length xs
length-forms k [] = refl
length-forms k (x ∷ xs) = ap suc (length-forms (k + 1) xs)

form_at_from : (k : ℕ) (xs : List Node) (j i : ℕ) (d : Node) → i ≡ k + j → j < length xs → get_or (forms_from k xs) j Nil ≡ form i (get_or xs j d)
form_at_from k [] j i d e h = let z : ⊥ = omega arith in elim z [ ]
form_at_from k (x ∷ xs) zero i d e h = let q : k ≡ i = omega arith in ap (λ n. form n x) q
form_at_from k (x ∷ xs) (suc j) i d e h = form_at_from (k + 1) xs j i d (omega arith) (omega arith)

pub form_at : (xs : List Node) (i : ℕ) (d : Node) → i < length xs → get_or (forms xs) i Nil ≡ form i (get_or xs i d)
form_at xs i d h = form_at_from 0 xs i i d (omega arith) h

fine_from : (k : ℕ) (xs : List Node) (j i : ℕ) → i ≡ k + j → j < length (forms_from k xs) → Fine i (get_or (forms_from k xs) j Nil)
fine_from k [] j i e h = (refl, refl)
fine_from k (x ∷ xs) zero i e h = let q : k ≡ i = omega arith in subst (λ (n : ℕ). Fine n (form k x)) q (form_fine k x)
fine_from k (x ∷ xs) (suc j) i e h = fine_from (k + 1) xs j i (omega arith) (omega arith)

pub forms_sound : (xs : List Node) → Sound (forms xs)
forms_sound xs j h = fine_from 0 xs j j (omega arith) h

push_from : (k : ℕ) (xs : List Node) (x : Node) (n : ℕ) → n ≡ k + length xs → forms_from k (xs ++ (x ∷ [])) ≡ forms_from k xs ++ (form n x ∷ [])
push_from k [] x n e = let q : k ≡ n = omega arith in ap (λ m. form m x ∷ []) q
push_from k (y ∷ xs) x n e = ap (λ fs. form k y ∷ fs) (push_from (k + 1) xs x n (omega arith))

pub forms_more : (xs : List Node) (i : ℕ) (d : Node) → i < length xs → forms (take (i + 1) xs) ≡ forms (take i xs) ++ (form i (get_or xs i d) ∷ [])
forms_more xs i d h = ap forms (take_more xs i d h) ∙ push_from 0 (take i xs) (get_or xs i d) i (omega (arith, length-take-le i xs (omega arith)))

pub whole_forms : (xs : List Node) → whole (forms xs) ≡ written xs
whole_forms xs = ap (λ n. cond (leb 1 n && leb n 256) (design (forms xs) (n - 1)) too_large) (length-forms 0 xs)
