-- What the computed answer to an equal sheet says.
use Rattle.std.proofs.Common.{◌≡◌, ℕ, ◌<◌, Bool, true, ◌&&◌, eqb, ltb, ◌↔◌, List, length, get_or, Some, None, sym, refl, ap, ◌∙◌, subst, inl, inr, arith}
use mathlib.Core.List.Memᴰ
use Rattle.std.proofs.lemmas.Bool.{both_ways, and_parts, and_from, eqb-true, eq-eqb, ltb-true, lt-ltb}
use Rattle.theory.specs.Systems.{Move, Lts, Moves}
use Rattle.theory.specs.Bisimulations.{Answers}
use Rattle.refinement.specs.Cells.{answers, answered}
use Rattle.refinement.proofs.Telling.{off, some_out, some_in}
use Rattle.certificates.specs.declared.rows.EqualRow.{EqualRow}
use Rattle.certificates.specs.declared.fault.SheetFault.{SheetFault}
use Rattle.certificates.specs.declared.fault.SheetFault.TheVariants.{NoSuchState, Unanswered}
use Rattle.theory.specs.Faults.{first_fault as first}
use Rattle.certificates.specs.Faults.{Counted}
use Rattle.certificates.specs.EqualSheets.{Listed, listed, Answered, FirstUnanswered, Exists, PassesEqual, FailsEqual, no_state, left_open, right_open, row_at, AcceptedEqual, RefusedEqual, move_fault, equal_row_fault, equal_fault}
use Rattle.std.proofs.lemmas.Option.{none-some}
use Rattle.certificates.proofs.Firsts.{or_none, or_some, or_left, or_right, first_none_out, first_none_in, first_some_out, first_some_in}
use Rattle.certificates.proofs.Checks.{cond_none, cond_some, cond_yes, cond_no, checked_accepted, checked_refused}
use Rattle.certificates.proofs.Members.{mem_at, mem_place}

row_is : (r : EqualRow) (x y : ℕ) → r.left ≡ x → r.right ≡ y → ◌≡◌ {A = EqualRow} (record { left = x; right = y }) r
row_is r x y e f = ap (λ (a : ℕ). record { left = a; right = y }) (sym e) ∙ ap (λ (b : ℕ). record { left = r.left; right = b }) (sym f)

pub listed_told : (rows : List EqualRow) (x y : ℕ) → (listed rows x y ≡ true) ↔ Listed rows x y
listed_told rows x y = (out, into)
  where
    out : listed rows x y ≡ true → Listed rows x y
    out e = let w = some_out (λ (r : EqualRow). eqb r.left x && eqb r.right y) rows e in
        let p = and_parts (eqb w.0.left x) (eqb w.0.right y) w.2 in
        Memᴰ.cast (row_is w.0 x y (eqb-true w.0.left x p.0) (eqb-true w.0.right y p.1)) w.1

    into : Listed rows x y → listed rows x y ≡ true
    into m = some_in (λ (r : EqualRow). eqb r.left x && eqb r.right y) m (and_from (eqb x x) (eqb y y) (eq-eqb x x refl) (eq-eqb y y refl))

-- a relation and its test
module _ (ok : ℕ → ℕ → Bool) (R : ℕ → ℕ → Type 0) (is : (x y : ℕ) → (ok x y ≡ true) ↔ R x y) where
  pub answered_told : (N : Lts) (t : ℕ) (m : Move) → (answered ok (N.moves t) m ≡ true) ↔ Answered N R t m
  answered_told N t m = (out, into)
    where
      out : answered ok (N.moves t) m ≡ true → Answered N R t m
      out e = let w = some_out (answers ok m) (N.moves t) e in
          let k = w.0 in
          let p = and_parts (eqb m.0 k.0) (ok m.1 k.1) w.2 in
          (k.1, subst (λ a. Moves N t a k.1) (sym (eqb-true m.0 k.0 p.0)) w.1, (is m.1 k.1).0 p.1)

      into : Answered N R t m → answered ok (N.moves t) m ≡ true
      into h = some_in (answers ok m) h.1 (and_from (eqb m.0 m.0) (ok m.1 h.0) (eq-eqb m.0 m.0 refl) ((is m.1 h.0).1 h.2))

  module _ (M N : Lts) (i side s t : ℕ) where
    pub moves_none : (first (move_fault ok (N.moves t) i side) 0 (M.moves s) ≡ None) ↔ Answers M N R s t
    moves_none = (out, into)
      where
        out : first (move_fault ok (N.moves t) i side) 0 (M.moves s) ≡ None → Answers M N R s t
        out e a s' m =
            let w = mem_place (0, 0) m in
            let h = first_none_out (move_fault ok (N.moves t) i side) (0, 0) 0 (M.moves s) e w.0 w.0 (omega arith) w.1 in
            let g = (cond_none (answered ok (N.moves t) (get_or (M.moves s) w.0 (0, 0))) None (Unanswered i side w.0) h).0 in
            (answered_told N t (a, s')).0 (subst (λ v. answered ok (N.moves t) v ≡ true) w.2 g)

        into : Answers M N R s t → first (move_fault ok (N.moves t) i side) 0 (M.moves s) ≡ None
        into f = first_none_in (move_fault ok (N.moves t) i side) (0, 0) 0 (M.moves s) (λ k j a l.
            let m = get_or (M.moves s) k (0, 0) in
            cond_yes (answered ok (N.moves t) m) None (Unanswered i side j) ((answered_told N t m).1 (f m.0 m.1 (mem_at (0, 0) (M.moves s) k l))))

    pub moves_some : (f : SheetFault) → (first (move_fault ok (N.moves t) i side) 0 (M.moves s) ≡ Some f) ↔ ((k : ℕ) × (f ≡ Unanswered i side k) × FirstUnanswered M N R s t k)
    moves_some f = (out, into)
      where
        out : first (move_fault ok (N.moves t) i side) 0 (M.moves s) ≡ Some f → (k : ℕ) × (f ≡ Unanswered i side k) × FirstUnanswered M N R s t k
        out e =
            let r = first_some_out (move_fault ok (N.moves t) i side) (0, 0) 0 (M.moves s) f e in
            let k = r.0 in
            elim (cond_some (answered ok (N.moves t) (get_or (M.moves s) k (0, 0))) None (Unanswered i side k) f (r.1.2 k (omega arith))) [
              | inl w ↦ absurd (none-some f w.1)
              | inr w ↦ (
                k,
                w.1,
                (
                  r.1.0,
                  (λ j l. (answered_told N t (get_or (M.moves s) j (0, 0))).0 (cond_none (answered ok (N.moves t) (get_or (M.moves s) j (0, 0))) None (Unanswered i side j) (r.1.1 j j (omega arith) l)).0),
                  (λ h. both_ways (answered ok (N.moves t) (get_or (M.moves s) k (0, 0))) w.0 ((answered_told N t (get_or (M.moves s) k (0, 0))).1 h)),
                ),
              )
            ]

        into : (k : ℕ) × (f ≡ Unanswered i side k) × FirstUnanswered M N R s t k → first (move_fault ok (N.moves t) i side) 0 (M.moves s) ≡ Some f
        into h = let k = h.0 in first_some_in (move_fault ok (N.moves t) i side) (0, 0) 0 (M.moves s) f k (
          h.2.0,
          (λ j n a l. cond_yes (answered ok (N.moves t) (get_or (M.moves s) j (0, 0))) None (Unanswered i side n) ((answered_told N t (get_or (M.moves s) j (0, 0))).1 (h.2.1 j l))),
          (λ n a. let b : k ≡ n = omega arith in cond_no (answered ok (N.moves t) (get_or (M.moves s) k (0, 0))) None (Unanswered i side n) f
              (off (answered ok (N.moves t) (get_or (M.moves s) k (0, 0))) (λ e. h.2.2 ((answered_told N t (get_or (M.moves s) k (0, 0))).0 e)))
              (h.1 ∙ ap (λ v. Unanswered i side v) b)),
        )

pub exists_out : (M N : Lts) (s t : ℕ) → (ltb s M.n && ltb t N.n) ≡ true → Exists M N s t
exists_out M N s t e = let p = and_parts (ltb s M.n) (ltb t N.n) e in (ltb-true s M.n p.0, ltb-true t N.n p.1)

pub exists_in : (M N : Lts) (s t : ℕ) → Exists M N s t → (ltb s M.n && ltb t N.n) ≡ true
exists_in M N s t h = and_from (ltb s M.n) (ltb t N.n) (lt-ltb s M.n h.0) (lt-ltb t N.n h.1)

module _ (M N : Lts) (rows : List EqualRow) (i : ℕ) where
  module _ (s t : ℕ) where
    left_none : (first (move_fault (listed rows) (N.moves t) i 0) 0 (M.moves s) ≡ None) ↔ Answers M N (Listed rows) s t
    left_none = moves_none (listed rows) (Listed rows) (listed_told rows) M N i 0 s t

    right_none : (first (move_fault (λ y x. listed rows x y) (M.moves s) i 1) 0 (N.moves t) ≡ None) ↔ Answers N M (λ y x. Listed rows x y) t s
    right_none = moves_none (λ y x. listed rows x y) (λ y x. Listed rows x y) (λ y x. listed_told rows x y) N M i 1 t s

    left_some : (f : SheetFault) → (first (move_fault (listed rows) (N.moves t) i 0) 0 (M.moves s) ≡ Some f) ↔ ((k : ℕ) × (f ≡ Unanswered i 0 k) × FirstUnanswered M N (Listed rows) s t k)
    left_some f = moves_some (listed rows) (Listed rows) (listed_told rows) M N i 0 s t f

    right_some : (f : SheetFault) → (first (move_fault (λ y x. listed rows x y) (M.moves s) i 1) 0 (N.moves t) ≡ Some f) ↔ ((k : ℕ) × (f ≡ Unanswered i 1 k) × FirstUnanswered N M (λ y x. Listed rows x y) t s k)
    right_some f = moves_some (λ y x. listed rows x y) (λ y x. Listed rows x y) (λ y x. listed_told rows x y) N M i 1 t s f

  row_passes : (equal_row_fault M N (listed rows) i (row_at rows i) ≡ None) ↔ PassesEqual M N rows i
  row_passes = (out, into)
    where
      out : equal_row_fault M N (listed rows) i (row_at rows i) ≡ None → PassesEqual M N rows i
      out e =
          let a = cond_none (ltb (row_at rows i).left M.n && ltb (row_at rows i).right N.n) _ (NoSuchState i) e in
          let b = or_none (first (move_fault (listed rows) (N.moves (row_at rows i).right) i 0) 0 (M.moves (row_at rows i).left)) _ a.1 in
          (exists_out M N (row_at rows i).left (row_at rows i).right a.0, (left_none (row_at rows i).left (row_at rows i).right).0 b.0, (right_none (row_at rows i).left (row_at rows i).right).0 b.1)

      into : PassesEqual M N rows i → equal_row_fault M N (listed rows) i (row_at rows i) ≡ None
      into h =
          cond_yes (ltb (row_at rows i).left M.n && ltb (row_at rows i).right N.n) _ (NoSuchState i) (exists_in M N (row_at rows i).left (row_at rows i).right h.0)
          ∙ or_right (first (move_fault (listed rows) (N.moves (row_at rows i).right) i 0) 0 (M.moves (row_at rows i).left)) _ ((left_none (row_at rows i).left (row_at rows i).right).1 h.1)
          ∙ (right_none (row_at rows i).left (row_at rows i).right).1 h.2

  row_fails : (f : SheetFault) → (equal_row_fault M N (listed rows) i (row_at rows i) ≡ Some f) ↔ FailsEqual M N rows i f
  row_fails f = (out, into)
    where
      out : equal_row_fault M N (listed rows) i (row_at rows i) ≡ Some f → FailsEqual M N rows i f
      out e = elim (cond_some (ltb (row_at rows i).left M.n && ltb (row_at rows i).right N.n) _ (NoSuchState i) f e) [
        | inl w ↦
            let here = exists_out M N (row_at rows i).left (row_at rows i).right w.0 in
            elim (or_some (first (move_fault (listed rows) (N.moves (row_at rows i).right) i 0) 0 (M.moves (row_at rows i).left)) _ f w.1) [
              | inl h ↦ let r = (left_some (row_at rows i).left (row_at rows i).right f).0 h in left_open r.0 r.1 here r.2
              | inr h ↦ let r = (right_some (row_at rows i).left (row_at rows i).right f).0 h.1 in right_open r.0 r.1 here ((left_none (row_at rows i).left (row_at rows i).right).0 h.0) r.2
            ]
        | inr w ↦ no_state w.1 (λ h. both_ways (ltb (row_at rows i).left M.n && ltb (row_at rows i).right N.n) w.0 (exists_in M N (row_at rows i).left (row_at rows i).right h))
      ]

      into : FailsEqual M N rows i f → equal_row_fault M N (listed rows) i (row_at rows i) ≡ Some f
      into (no_state e n) = cond_no (ltb (row_at rows i).left M.n && ltb (row_at rows i).right N.n) _ (NoSuchState i) f (off (ltb (row_at rows i).left M.n && ltb (row_at rows i).right N.n) (λ b. n (exists_out M N (row_at rows i).left (row_at rows i).right b))) e
      into (left_open k e h u) =
          cond_yes (ltb (row_at rows i).left M.n && ltb (row_at rows i).right N.n) _ (NoSuchState i) (exists_in M N (row_at rows i).left (row_at rows i).right h)
          ∙ or_left (first (move_fault (listed rows) (N.moves (row_at rows i).right) i 0) 0 (M.moves (row_at rows i).left)) _ f ((left_some (row_at rows i).left (row_at rows i).right f).1 (k, e, u))
      into (right_open k e h a u) =
          cond_yes (ltb (row_at rows i).left M.n && ltb (row_at rows i).right N.n) _ (NoSuchState i) (exists_in M N (row_at rows i).left (row_at rows i).right h)
          ∙ or_right (first (move_fault (listed rows) (N.moves (row_at rows i).right) i 0) 0 (M.moves (row_at rows i).left)) _ ((left_none (row_at rows i).left (row_at rows i).right).1 a)
          ∙ (right_some (row_at rows i).left (row_at rows i).right f).1 (k, e, u)

-- Rows that pass one by one are a bisimulation, and the other way round.
module _ (M N : Lts) (rows : List EqualRow) (s t : ℕ) where
  pub accepted_by_row : (Counted (length rows) × ((i : ℕ) → i < length rows → PassesEqual M N rows i) × Listed rows s t) ↔ AcceptedEqual M N rows s t
  accepted_by_row = (out, into)
    where
      passes : ((i : ℕ) → i < length rows → PassesEqual M N rows i) → (x y : ℕ) → Listed rows x y
          → Exists M N x y × Answers M N (Listed rows) x y × Answers N M (λ b a. Listed rows a b) y x
      passes all x y m =
          let w = mem_place {X = EqualRow} (record { left = 0; right = 0 }) m in
          subst (λ (r : EqualRow). Exists M N r.left r.right × Answers M N (Listed rows) r.left r.right × Answers N M (λ b a. Listed rows a b) r.right r.left) w.2 (all w.0 w.1)

      out : Counted (length rows) × ((i : ℕ) → i < length rows → PassesEqual M N rows i) × Listed rows s t → AcceptedEqual M N rows s t
      out h = record {
        count = h.0;
        exist = λ x y m. (passes h.1 x y m).0;
        bisimulation = record { there = λ x y m. (passes h.1 x y m).1; back = λ x y m. (passes h.1 x y m).2 };
        asked = h.2;
      }

      into : AcceptedEqual M N rows s t → Counted (length rows) × ((i : ℕ) → i < length rows → PassesEqual M N rows i) × Listed rows s t
      into a = (
        a.count,
        (λ i l.
            let m = mem_at {X = EqualRow} (record { left = 0; right = 0 }) rows i l in
            (a.exist (row_at rows i).left (row_at rows i).right m, a.bisimulation.there (row_at rows i).left (row_at rows i).right m, a.bisimulation.back (row_at rows i).left (row_at rows i).right m)),
        a.asked,
      )

  pub equal_accepted : (equal_fault M N rows s t ≡ None) ↔ AcceptedEqual M N rows s t
  equal_accepted =
      let e = checked_accepted rows (record { left = 0; right = 0 }) (equal_row_fault M N (listed rows)) (listed rows s t) (PassesEqual M N rows) (FailsEqual M N rows) (Listed rows s t) (λ i _. row_passes M N rows i) (λ i f _. row_fails M N rows i f) (listed_told rows s t) in
      ((λ h. accepted_by_row.0 (e.0 h)), (λ a. e.1 (accepted_by_row.1 a)))

  pub equal_refused : (f : SheetFault) → (equal_fault M N rows s t ≡ Some f) ↔ RefusedEqual M N rows s t f
  equal_refused f = checked_refused rows (record { left = 0; right = 0 }) (equal_row_fault M N (listed rows)) (listed rows s t) (PassesEqual M N rows) (FailsEqual M N rows) (Listed rows s t) (λ i _. row_passes M N rows i) (λ i f _. row_fails M N rows i f) (listed_told rows s t) f
