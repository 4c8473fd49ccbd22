-- The row that is written for a pair: its move is one all of whose answers lead to ok pairs.
use Rattle.std.proofs.Common.{◌≡◌, ℕ, Bool, true, false, cond, not, ◌⊎◌, ◌↔◌, Some, None, Option, sym, refl, ap, ◌∙◌, subst, inl, inr, arith}
use mathlib.Core.List.{Memᴰ}
use Rattle.std.proofs.lemmas.Bool.{cases_Bool, both_ways, not-true, not_from_false}
use Rattle.theory.specs.Systems.{Move, Lts, Moves}
use Rattle.refinement.proofs.Telling.{off}
use Rattle.refinement.specs.Cells.{answered}
use Rattle.certificates.specs.declared.rows.DifferentRow.{DifferentRow}
use Rattle.theory.specs.Faults.{first_fault as first}
use Rattle.certificates.specs.DifferentSheets.{move_at, Cornered}
use Rattle.certificates.specs.Listings.{cornered, entry_at, entry}
use Rattle.certificates.proofs.Firsts.{or_none, or_some, first_none_out, first_some_out}
use Rattle.std.proofs.lemmas.Option.{none-some, same_Some}
use Rattle.certificates.proofs.Members.{mem_place}
use Rattle.certificates.proofs.EqualTold.{answered_told}

-- each answer to m by t leads to an ok pair
abbrev pub Led : Lts → (ℕ → ℕ → Bool) → ℕ → Move → Type 0
Led N ok t m = (t' : ℕ) → Moves N t m.0 t' → ok m.1 t' ≡ true

module _ (ok : ℕ → ℕ → Bool) (N : Lts) (t : ℕ) (m : Move) where
  outside : (x y : ℕ) → (not (ok x y) ≡ true) ↔ (ok x y ≡ false)
  outside x y = (not-true (ok x y), not_from_false (ok x y))

  pub cornered_out : cornered ok (N.moves t) m ≡ true → Led N ok t m
  cornered_out e t' k = elim (cases_Bool (ok m.1 t')) [
    | inl y ↦ y
    | inr n ↦ absurd (both_ways (answered (λ x y. not (ok x y)) (N.moves t) m) (not-true (answered (λ x y. not (ok x y)) (N.moves t) m) e) ((answered_told (λ x y. not (ok x y)) (λ x y. ok x y ≡ false) outside N t m).1 (t', k, n)))
  ]

  pub cornered_in : Led N ok t m → cornered ok (N.moves t) m ≡ true
  cornered_in f = not_from_false (answered (λ x y. not (ok x y)) (N.moves t) m) (off (answered (λ x y. not (ok x y)) (N.moves t) m) (λ e.
      let w = (answered_told (λ x y. not (ok x y)) (λ x y. ok x y ≡ false) outside N t m).0 e in both_ways (ok m.1 w.0) w.2 (f w.0 w.1)))

when_some : {Y : Type 0} (b : Bool) (y z : Y) → cond b (Some y) None ≡ Some z → (b ≡ true) × (z ≡ y)
when_some true y z e = (refl, same_Some _ _ (sym e))
when_some false y z e = absurd (none-some z e)

when_none : {Y : Type 0} (b : Bool) (y : Y) → b ≡ true → cond b (Some y) None ≡ None → ⊥
when_none b y e h = none-some y (sym h ∙ ap (λ v. cond v (Some y) None) e)

pub option_cases : {Y : Type 0} (o : Option Y) → (o ≡ None) ⊎ ((y : Y) × (o ≡ Some y))
option_cases None = inl refl
option_cases (Some y) = inr (y, refl)

-- what the row of a pair says
abbrev pub Entered : Lts → Lts → (ℕ → ℕ → Bool) → ℕ → ℕ → DifferentRow → Type 0
Entered M N ok s t r = (r.left ≡ s) × (r.right ≡ t)
    × (((r.side ≡ 0) × Cornered M N (λ x y. ok x y ≡ true) s t r.k) ⊎ ((r.side ≡ 1) × Cornered N M (λ y x. ok x y ≡ true) t s r.k))

-- one side of the search
module _ (ok : ℕ → ℕ → Bool) (M N : Lts) (s t left right side : ℕ) where
  side_out : (r : DifferentRow) → first (entry_at ok (N.moves t) left right side) 0 (M.moves s) ≡ Some r
      → (r.left ≡ left) × (r.right ≡ right) × (r.side ≡ side) × Cornered M N (λ x y. ok x y ≡ true) s t r.k
  side_out r e =
      let w = first_some_out (entry_at ok (N.moves t) left right side) (0, 0) 0 (M.moves s) r e in
      let k = w.0 in
      let h = when_some (cornered ok (N.moves t) (move_at M s k)) (record { left = left; right = right; side = side; k = k }) r (w.1.2 k (omega arith)) in
      let is = h.1 in (
        ap (λ (z : DifferentRow). z.left) is,
        ap (λ (z : DifferentRow). z.right) is,
        ap (λ (z : DifferentRow). z.side) is,
        subst (λ v. Cornered M N (λ x y. ok x y ≡ true) s t v) (sym (ap (λ (z : DifferentRow). z.k) is)) (w.1.0, cornered_out ok N t (move_at M s k) h.0),
      )

  side_some : (m : Move) → Memᴰ m (M.moves s) → Led N ok t m → first (entry_at ok (N.moves t) left right side) 0 (M.moves s) ≡ None → ⊥
  side_some m i f e =
      let w = mem_place (0, 0) i in
      let h = first_none_out (entry_at ok (N.moves t) left right side) (0, 0) 0 (M.moves s) e w.0 w.0 (omega arith) w.1 in
      when_none (cornered ok (N.moves t) (move_at M s w.0)) (record { left = left; right = right; side = side; k = w.0 }) (subst (λ v. cornered ok (N.moves t) v ≡ true) (sym w.2) (cornered_in ok N t m f)) h

module _ (M N : Lts) (ok : ℕ → ℕ → Bool) (s t : ℕ) where
  pub entry_out : (r : DifferentRow) → entry M N ok s t ≡ Some r → Entered M N ok s t r
  entry_out r e = elim (or_some (first (entry_at ok (N.moves t) s t 0) 0 (M.moves s)) _ r e) [
    | inl h ↦ let w = side_out ok M N s t s t 0 r h in (w.0, w.1, inl (w.2, w.3))
    | inr h ↦ let w = side_out (λ y x. ok x y) N M t s s t 1 r h.1 in (w.0, w.1, inr (w.2, w.3))
  ]

  pub entry_some : ((m : Move) × Memᴰ m (M.moves s) × Led N ok t m) ⊎ ((m : Move) × Memᴰ m (N.moves t) × Led M (λ y x. ok x y) s m) → (r : DifferentRow) × (entry M N ok s t ≡ Some r)
  entry_some w = elim (option_cases (entry M N ok s t)) [
    | inl e ↦ let p = or_none (first (entry_at ok (N.moves t) s t 0) 0 (M.moves s)) _ e in absurd (elim w [
      | inl h ↦ side_some ok M N s t s t 0 h.0 h.1 h.2 p.0
      | inr h ↦ side_some (λ y x. ok x y) N M t s s t 1 h.0 h.1 h.2 p.1
    ])
    | inr r ↦ r
  ]
