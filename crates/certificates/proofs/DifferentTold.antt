-- What the computed answer to a different sheet says.
use Rattle.std.proofs.Common.{◌≡◌, ℕ, ◌-◌, ◌<◌, ◌≤◌, Bool, true, false, cond, not, ◌&&◌, eqb, ltb, ◌⊎◌, ◌↔◌, List, map, length, get_or, take, Some, None, Option, sym, refl, ap, ◌∙◌, inl, inr, arith}
use mathlib.Core.List.Memᴰ
use Rattle.std.proofs.lemmas.List.{length-map, length-take-le, get_or-map, get_or-take}
use Rattle.std.proofs.lemmas.Bool.{cases_Bool, cases_eq, both_ways, and_parts, and_from, eqb-true, eq-eqb, ne_eqb, ltb-true, ltb-false, lt-ltb, le-ltb, not-true, not_from_false, not_from_true, not-false}
use Rattle.theory.specs.Systems.{Lts}
use Rattle.refinement.proofs.Telling.{off}
use Rattle.refinement.specs.Cells.{answered}
use Rattle.certificates.specs.declared.rows.EqualRow.{EqualRow}
use Rattle.certificates.specs.declared.rows.DifferentRow.{DifferentRow}
use Rattle.certificates.specs.declared.fault.SheetFault.{SheetFault}
use Rattle.certificates.specs.declared.fault.SheetFault.TheVariants.{NoSuchState, NoSuchMove, Unanswered}
use Rattle.certificates.specs.EqualSheets.{Listed, Exists}
use Rattle.certificates.specs.DifferentSheets.{different_row, Earlier, move_at, Cornered, Escapes, PassesDifferent, by_left, by_right, Last, AcceptedDifferent, FailsDifferent, no_state, no_side, no_left, no_right, left_escapes, right_escapes, RefusedDifferent, pair_of, earlier, named_fault, side_fault, different_row_fault, last_is, different_fault}
use Rattle.std.proofs.lemmas.Option.{none-some, same_Some}
use Rattle.certificates.proofs.Checks.{cond_none, cond_some, cond_yes, cond_no, checked_accepted, checked_refused}
use Rattle.certificates.proofs.Members.{mem_at, mem_place}
use Rattle.certificates.proofs.EqualTold.{listed_told, answered_told, exists_out, exists_in}

pub earlier_told : (rows : List DifferentRow) (i : ℕ) → i < length rows → (x y : ℕ) → (earlier rows i x y ≡ true) ↔ Earlier rows i x y
earlier_told rows i l x y = ((λ e. out ((listed_told (map pair_of (take i rows)) x y).0 e)), (λ h. (listed_told (map pair_of (take i rows)) x y).1 (into h)))
  where
    long : length (map pair_of (take i rows)) ≡ i
    long = length-map (take i rows) pair_of ∙ length-take-le i rows (omega arith)

    at : (j : ℕ) → j < i → get_or (map pair_of (take i rows)) j (record { left = 0; right = 0 }) ≡ pair_of (different_row rows j)
    at j h = get_or-map pair_of (take i rows) j (record { left = 0; right = 0; side = 0; k = 0 }) (record { left = 0; right = 0 }) (let e = length-take-le i rows (omega arith) in omega arith) ∙ ap pair_of (get_or-take i rows j (record { left = 0; right = 0; side = 0; k = 0 }) h)

    out : Listed (map pair_of (take i rows)) x y → Earlier rows i x y
    out m = let w = mem_place {X = EqualRow} (record { left = 0; right = 0 }) m in
        let h : w.0 < i = omega (arith, w.1, long) in
        let e = sym (at w.0 h) ∙ w.2 in
        (w.0, h, ap (λ (r : EqualRow). r.left) e, ap (λ (r : EqualRow). r.right) e)

    into : Earlier rows i x y → Listed (map pair_of (take i rows)) x y
    into h = let m = mem_at {X = EqualRow} (record { left = 0; right = 0 }) (map pair_of (take i rows)) h.0 (omega (arith, long, h.1)) in
        Memᴰ.cast (ap (λ (a : ℕ). record { left = a; right = y }) (sym h.2) ∙ ap (λ (b : ℕ). record { left = (different_row rows h.0).left; right = b }) (sym h.3) ∙ sym (at h.0 h.1)) m

module _ (ok : ℕ → ℕ → Bool) (R : ℕ → ℕ → Type 0) (is : (x y : ℕ) → (ok x y ≡ true) ↔ R x y) where
  outside : (x y : ℕ) → (not (ok x y) ≡ true) ↔ (R x y → ⊥)
  outside x y = ((λ e r. both_ways (ok x y) (not-true (ok x y) e) ((is x y).1 r)), (λ n. not_from_false (ok x y) (off (ok x y) (λ e. n ((is x y).0 e)))))

  module _ (M N : Lts) (i side s t k : ℕ) where
    escapes_told : (answered (λ x y. not (ok x y)) (N.moves t) (move_at M s k) ≡ true) ↔ Escapes M N R s t k
    escapes_told = answered_told (λ x y. not (ok x y)) (λ x y. R x y → ⊥) outside N t (move_at M s k)

    pub named_none : (named_fault ok (M.moves s) (N.moves t) i side k ≡ None) ↔ Cornered M N R s t k
    named_none = (out, into)
      where
        out : named_fault ok (M.moves s) (N.moves t) i side k ≡ None → Cornered M N R s t k
        out e =
            let a = cond_none (ltb k (length (M.moves s))) _ (NoSuchMove i) e in
            let b = not-true (answered (λ x y. not (ok x y)) (N.moves t) (move_at M s k)) (cond_none (not (answered (λ x y. not (ok x y)) (N.moves t) (move_at M s k))) None (Unanswered i side k) a.1).0 in (
              ltb-true k (length (M.moves s)) a.0,
              (λ t' m. elim (cases_Bool (ok (move_at M s k).1 t')) [
                | inl y ↦ (is (move_at M s k).1 t').0 y
                | inr n ↦ absurd (both_ways (answered (λ x y. not (ok x y)) (N.moves t) (move_at M s k)) b (escapes_told.1 (t', m, λ r. both_ways (ok (move_at M s k).1 t') n ((is (move_at M s k).1 t').1 r))))
              ]),
            )

        into : Cornered M N R s t k → named_fault ok (M.moves s) (N.moves t) i side k ≡ None
        into h =
            cond_yes (ltb k (length (M.moves s))) _ (NoSuchMove i) (lt-ltb k (length (M.moves s)) h.0)
            ∙ cond_yes (not (answered (λ x y. not (ok x y)) (N.moves t) (move_at M s k))) None (Unanswered i side k) (not_from_false (answered (λ x y. not (ok x y)) (N.moves t) (move_at M s k)) (off (answered (λ x y. not (ok x y)) (N.moves t) (move_at M s k)) (λ e. let w = escapes_told.0 e in w.2 (h.1 w.0 w.1))))

    pub named_some : (f : SheetFault) → (named_fault ok (M.moves s) (N.moves t) i side k ≡ Some f) ↔ (((f ≡ NoSuchMove i) × (length (M.moves s) ≤ k)) ⊎ ((f ≡ Unanswered i side k) × (k < length (M.moves s)) × Escapes M N R s t k))
    named_some f = (out, into)
      where
        out : named_fault ok (M.moves s) (N.moves t) i side k ≡ Some f → ((f ≡ NoSuchMove i) × (length (M.moves s) ≤ k)) ⊎ ((f ≡ Unanswered i side k) × (k < length (M.moves s)) × Escapes M N R s t k)
        out e = elim (cond_some (ltb k (length (M.moves s))) _ (NoSuchMove i) f e) [
          | inl w ↦ elim (cond_some (not (answered (λ x y. not (ok x y)) (N.moves t) (move_at M s k))) None (Unanswered i side k) f w.1) [
            | inl v ↦ absurd (none-some f v.1)
            | inr v ↦ inr (v.1, ltb-true k (length (M.moves s)) w.0, escapes_told.0 (not-false (answered (λ x y. not (ok x y)) (N.moves t) (move_at M s k)) v.0))
          ]
          | inr w ↦ inl (w.1, ltb-false k (length (M.moves s)) w.0)
        ]

        into : ((f ≡ NoSuchMove i) × (length (M.moves s) ≤ k)) ⊎ ((f ≡ Unanswered i side k) × (k < length (M.moves s)) × Escapes M N R s t k) → named_fault ok (M.moves s) (N.moves t) i side k ≡ Some f
        into (inl h) = cond_no (ltb k (length (M.moves s))) _ (NoSuchMove i) f (le-ltb k (length (M.moves s)) h.1) h.0
        into (inr h) =
            cond_yes (ltb k (length (M.moves s))) _ (NoSuchMove i) (lt-ltb k (length (M.moves s)) h.1)
            ∙ cond_no (not (answered (λ x y. not (ok x y)) (N.moves t) (move_at M s k))) None (Unanswered i side k) f (not_from_true (answered (λ x y. not (ok x y)) (N.moves t) (move_at M s k)) (escapes_told.1 h.2)) h.0

-- which side a number names
side_cases : (side : ℕ) → (side ≡ 0) ⊎ ((side ≡ 1) ⊎ (1 < side))
side_cases side = elim (cases_eq side 0) [
  | inl e ↦ inl e
  | inr n ↦ inr (elim (cases_eq side 1) [
    | inl e ↦ inl e
    | inr m ↦ inr (omega arith)
  ])
]

module _ {Y : Type 0} (side : ℕ) (a b c : Y) where
  side_0 : side ≡ 0 → cond (eqb side 0) a (cond (eqb side 1) b c) ≡ a
  side_0 e = ap (λ v. cond v a (cond (eqb side 1) b c)) (eq-eqb side 0 e)

  side_1 : side ≡ 1 → cond (eqb side 0) a (cond (eqb side 1) b c) ≡ b
  side_1 e = ap (λ v. cond v a (cond (eqb side 1) b c)) (ne_eqb side 0 (λ z. absurd (omega arith))) ∙ ap (λ v. cond v b c) (eq-eqb side 1 e)

  side_2 : 1 < side → cond (eqb side 0) a (cond (eqb side 1) b c) ≡ c
  side_2 l = ap (λ v. cond v a (cond (eqb side 1) b c)) (ne_eqb side 0 (λ z. absurd (omega arith))) ∙ ap (λ v. cond v b c) (ne_eqb side 1 (λ z. absurd (omega arith)))

module _ (M N : Lts) (rows : List DifferentRow) (i : ℕ) (inside : i < length rows) where
  here : Bool
  here = ltb (different_row rows i).left M.n && ltb (different_row rows i).right N.n

  lefts : Option SheetFault
  lefts = named_fault (earlier rows i) (M.moves (different_row rows i).left) (N.moves (different_row rows i).right) i 0 (different_row rows i).k

  rights : Option SheetFault
  rights = named_fault (λ y x. earlier rows i x y) (N.moves (different_row rows i).right) (M.moves (different_row rows i).left) i 1 (different_row rows i).k

  left_none : (lefts ≡ None) ↔ Cornered M N (Earlier rows i) (different_row rows i).left (different_row rows i).right (different_row rows i).k
  unfolding lefts
  left_none = named_none (earlier rows i) (Earlier rows i) (earlier_told rows i inside) M N i 0 (different_row rows i).left (different_row rows i).right (different_row rows i).k

  right_none : (rights ≡ None) ↔ Cornered N M (λ y x. Earlier rows i x y) (different_row rows i).right (different_row rows i).left (different_row rows i).k
  unfolding rights
  right_none = named_none (λ y x. earlier rows i x y) (λ y x. Earlier rows i x y) (λ y x. earlier_told rows i inside x y) N M i 1 (different_row rows i).right (different_row rows i).left (different_row rows i).k

  left_some : (f : SheetFault) → (lefts ≡ Some f) ↔ (((f ≡ NoSuchMove i) × (length (M.moves (different_row rows i).left) ≤ (different_row rows i).k)) ⊎ ((f ≡ Unanswered i 0 (different_row rows i).k) × ((different_row rows i).k < length (M.moves (different_row rows i).left)) × Escapes M N (Earlier rows i) (different_row rows i).left (different_row rows i).right (different_row rows i).k))
  unfolding lefts
  left_some = named_some (earlier rows i) (Earlier rows i) (earlier_told rows i inside) M N i 0 (different_row rows i).left (different_row rows i).right (different_row rows i).k

  right_some : (f : SheetFault) → (rights ≡ Some f) ↔ (((f ≡ NoSuchMove i) × (length (N.moves (different_row rows i).right) ≤ (different_row rows i).k)) ⊎ ((f ≡ Unanswered i 1 (different_row rows i).k) × ((different_row rows i).k < length (N.moves (different_row rows i).right)) × Escapes N M (λ y x. Earlier rows i x y) (different_row rows i).right (different_row rows i).left (different_row rows i).k))
  unfolding rights
  right_some = named_some (λ y x. earlier rows i x y) (λ y x. Earlier rows i x y) (λ y x. earlier_told rows i inside x y) N M i 1 (different_row rows i).right (different_row rows i).left (different_row rows i).k

  fault : Option SheetFault
  fault = different_row_fault M N (earlier rows i) i (different_row rows i)

  by_side : cond (eqb (different_row rows i).side 0) lefts (cond (eqb (different_row rows i).side 1) rights (Some (NoSuchMove i))) ≡ side_fault M N (earlier rows i) i (different_row rows i)
  unfolding lefts rights
  by_side = refl

  -- the states exist, so that the side decides
  at_0 : here ≡ true → (different_row rows i).side ≡ 0 → fault ≡ lefts
  unfolding here fault
  at_0 e z = cond_yes (ltb (different_row rows i).left M.n && ltb (different_row rows i).right N.n) (side_fault M N (earlier rows i) i (different_row rows i)) (NoSuchState i) e ∙ sym by_side ∙ side_0 (different_row rows i).side lefts rights (Some (NoSuchMove i)) z

  at_1 : here ≡ true → (different_row rows i).side ≡ 1 → fault ≡ rights
  unfolding here fault
  at_1 e z = cond_yes (ltb (different_row rows i).left M.n && ltb (different_row rows i).right N.n) (side_fault M N (earlier rows i) i (different_row rows i)) (NoSuchState i) e ∙ sym by_side ∙ side_1 (different_row rows i).side lefts rights (Some (NoSuchMove i)) z

  at_2 : here ≡ true → 1 < (different_row rows i).side → fault ≡ Some (NoSuchMove i)
  unfolding here fault
  at_2 e z = cond_yes (ltb (different_row rows i).left M.n && ltb (different_row rows i).right N.n) (side_fault M N (earlier rows i) i (different_row rows i)) (NoSuchState i) e ∙ sym by_side ∙ side_2 (different_row rows i).side lefts rights (Some (NoSuchMove i)) z

  exists : here ≡ true → Exists M N (different_row rows i).left (different_row rows i).right
  unfolding here
  exists e = exists_out M N (different_row rows i).left (different_row rows i).right e

  exist : Exists M N (different_row rows i).left (different_row rows i).right → here ≡ true
  unfolding here
  exist h = exists_in M N (different_row rows i).left (different_row rows i).right h

  none_here : fault ≡ None → here ≡ true
  unfolding here fault
  none_here e = (cond_none (ltb (different_row rows i).left M.n && ltb (different_row rows i).right N.n) _ (NoSuchState i) e).0

  some_here : (f : SheetFault) → fault ≡ Some f → (here ≡ true) ⊎ ((here ≡ false) × (f ≡ NoSuchState i))
  unfolding here fault
  some_here f e = elim (cond_some (ltb (different_row rows i).left M.n && ltb (different_row rows i).right N.n) _ (NoSuchState i) f e) [
    | inl w ↦ inl w.0
    | inr w ↦ inr w
  ]

  not_here : (f : SheetFault) → here ≡ false → f ≡ NoSuchState i → fault ≡ Some f
  unfolding here fault
  not_here f e g = cond_no (ltb (different_row rows i).left M.n && ltb (different_row rows i).right N.n) _ (NoSuchState i) f e g

  row_passes : (fault ≡ None) ↔ PassesDifferent M N rows i
  row_passes = (out, into)
    where
      out : fault ≡ None → PassesDifferent M N rows i
      out e = let h = none_here e in elim (side_cases (different_row rows i).side) [
        | inl z ↦ by_left (exists h) z (left_none.0 (sym (at_0 h z) ∙ e))
        | inr o ↦ elim o [
          | inl z ↦ by_right (exists h) z (right_none.0 (sym (at_1 h z) ∙ e))
          | inr z ↦ absurd (none-some (NoSuchMove i) (sym e ∙ at_2 h z))
        ]
      ]

      into : PassesDifferent M N rows i → fault ≡ None
      into (by_left h z c) = at_0 (exist h) z ∙ left_none.1 c
      into (by_right h z c) = at_1 (exist h) z ∙ right_none.1 c

  row_fails : (f : SheetFault) → (fault ≡ Some f) ↔ FailsDifferent M N rows i f
  row_fails f = (out, into)
    where
      on_left : here ≡ true → (different_row rows i).side ≡ 0 → lefts ≡ Some f → FailsDifferent M N rows i f
      on_left h z e = elim ((left_some f).0 e) [
        | inl w ↦ no_left w.0 (exists h) z w.1
        | inr w ↦ left_escapes w.0 (exists h) z w.1 w.2
      ]

      on_right : here ≡ true → (different_row rows i).side ≡ 1 → rights ≡ Some f → FailsDifferent M N rows i f
      on_right h z e = elim ((right_some f).0 e) [
        | inl w ↦ no_right w.0 (exists h) z w.1
        | inr w ↦ right_escapes w.0 (exists h) z w.1 w.2
      ]

      sided : here ≡ true → fault ≡ Some f → FailsDifferent M N rows i f
      sided h e = elim (side_cases (different_row rows i).side) [
        | inl z ↦ on_left h z (sym (at_0 h z) ∙ e)
        | inr o ↦ elim o [
          | inl z ↦ on_right h z (sym (at_1 h z) ∙ e)
          | inr z ↦ no_side (same_Some _ _ (sym e ∙ at_2 h z)) (exists h) z
        ]
      ]

      out : fault ≡ Some f → FailsDifferent M N rows i f
      out e = elim (some_here f e) [
        | inl h ↦ sided h e
        | inr w ↦ no_state w.1 (λ x. both_ways here w.0 (exist x))
      ]

      into : FailsDifferent M N rows i f → fault ≡ Some f
      into (no_state e n) = not_here f (off here (λ b. n (exists b))) e
      into (no_side e h z) = at_2 (exist h) z ∙ ap Some (sym e)
      into (no_left e h z l) = at_0 (exist h) z ∙ (left_some f).1 (inl (e, l))
      into (no_right e h z l) = at_1 (exist h) z ∙ (right_some f).1 (inl (e, l))
      into (left_escapes e h z l w) = at_0 (exist h) z ∙ (left_some f).1 (inr (e, l, w))
      into (right_escapes e h z l w) = at_1 (exist h) z ∙ (right_some f).1 (inr (e, l, w))

  pub row_passes_told : (different_row_fault M N (earlier rows i) i (different_row rows i) ≡ None) ↔ PassesDifferent M N rows i
  unfolding fault
  row_passes_told = row_passes

  pub row_fails_told : (f : SheetFault) → (different_row_fault M N (earlier rows i) i (different_row rows i) ≡ Some f) ↔ FailsDifferent M N rows i f
  unfolding fault
  row_fails_told = row_fails

last_told : (rows : List DifferentRow) (s t : ℕ) → (last_is rows s t ≡ true) ↔ Last rows s t
last_told rows s t = (out, into)
  where
    out : last_is rows s t ≡ true → Last rows s t
    out e = let p = and_parts (eqb (different_row rows (length rows - 1)).left s) (eqb (different_row rows (length rows - 1)).right t) e in (eqb-true _ s p.0, eqb-true _ t p.1)

    into : Last rows s t → last_is rows s t ≡ true
    into h = and_from (eqb (different_row rows (length rows - 1)).left s) (eqb (different_row rows (length rows - 1)).right t) (eq-eqb _ s h.0) (eq-eqb _ t h.1)

module _ (M N : Lts) (rows : List DifferentRow) (s t : ℕ) where
  pub different_accepted : (different_fault M N rows s t ≡ None) ↔ AcceptedDifferent M N rows s t
  different_accepted =
      let e = checked_accepted rows (record { left = 0; right = 0; side = 0; k = 0 }) (λ i r. different_row_fault M N (earlier rows i) i r) (last_is rows s t) (PassesDifferent M N rows) (FailsDifferent M N rows) (Last rows s t) (row_passes_told M N rows) (λ i f l. row_fails_told M N rows i l f) (last_told rows s t) in
      ((λ h. let a = e.0 h in record { count = a.0; passes = a.1; asked = a.2 }), (λ a. e.1 (a.count, a.passes, a.asked)))

  pub different_refused : (f : SheetFault) → (different_fault M N rows s t ≡ Some f) ↔ RefusedDifferent M N rows s t f
  different_refused f = checked_refused rows (record { left = 0; right = 0; side = 0; k = 0 }) (λ i r. different_row_fault M N (earlier rows i) i r) (last_is rows s t) (PassesDifferent M N rows) (FailsDifferent M N rows) (Last rows s t) (row_passes_told M N rows) (λ i f l. row_fails_told M N rows i l f) (last_told rows s t) f
