-- A check asks for the number of rows, then row by row, then for the asked pair: what its answer says.
use Rattle.std.proofs.Common.{◌≡◌, ℕ, ◌<◌, Bool, true, false, cond, leb, ◌⊎◌, ◌↔◌, List, length, get_or, Some, None, Option, sym, ap, ◌∙◌, subst, inl, inr, arith}
use Rattle.std.proofs.lemmas.Option.{none-some, same_Some}
use Rattle.std.proofs.lemmas.Bool.{cases_Bool, both_ways, and_parts, and_from, leb-true, le-leb}
use Rattle.certificates.specs.declared.fault.SheetFault.{SheetFault}
use Rattle.certificates.specs.declared.fault.SheetFault.TheVariants.{RowCount, NotAsked}
use Rattle.refinement.proofs.Telling.{off}
use Rattle.theory.specs.Faults.{first_fault as first}
use Rattle.certificates.specs.Faults.{Counted, counted, Refused, by_count, by_row, by_asked, sheet_fault}
use Rattle.certificates.proofs.Firsts.{or_none, or_some, or_left, or_right, first_none_out, first_none_in, first_some_out, first_some_in}

-- a test, with an answer for either way
module _ {Y : Type 0} (b : Bool) (y : Option Y) (z : Y) where
  pub cond_none : cond b y (Some z) ≡ None → (b ≡ true) × (y ≡ None)
  cond_none e = elim (cases_Bool b) [
    | inl t ↦ (t, sym (ap (λ v. cond v y (Some z)) t) ∙ e)
    | inr f ↦ absurd (none-some z (sym e ∙ ap (λ v. cond v y (Some z)) f))
  ]

  pub cond_some : (f : Y) → cond b y (Some z) ≡ Some f → ((b ≡ true) × (y ≡ Some f)) ⊎ ((b ≡ false) × (f ≡ z))
  cond_some f e = elim (cases_Bool b) [
    | inl t ↦ inl (t, sym (ap (λ v. cond v y (Some z)) t) ∙ e)
    | inr n ↦ inr (n, same_Some _ _ (sym e ∙ ap (λ v. cond v y (Some z)) n))
  ]

  pub cond_yes : b ≡ true → cond b y (Some z) ≡ y
  cond_yes e = ap (λ v. cond v y (Some z)) e

  pub cond_no : (f : Y) → b ≡ false → f ≡ z → cond b y (Some z) ≡ Some f
  cond_no f e g = ap (λ v. cond v y (Some z)) e ∙ ap Some (sym g)

pub counted_out : (m : ℕ) → counted m ≡ true → Counted m
counted_out m e = let p = and_parts (leb 1 m) (leb m 1048576) e in (leb-true 1 m p.0, leb-true m 1048576 p.1)

pub counted_in : (m : ℕ) → Counted m → counted m ≡ true
counted_in m c = and_from (leb 1 m) (leb m 1048576) (le-leb 1 m c.0) (le-leb m 1048576 c.1)

module _ {Row : Type 0} (rows : List Row) (d : Row) (q : ℕ → Row → Option SheetFault) (asked : Bool)
    (Passes : ℕ → Type 0) (Fails : ℕ → SheetFault → Type 0) (Asked : Type 0)
    (pass : (i : ℕ) → i < length rows → (q i (get_or rows i d) ≡ None) ↔ Passes i)
    (fail : (i : ℕ) (f : SheetFault) → i < length rows → (q i (get_or rows i d) ≡ Some f) ↔ Fails i f)
    (ask : (asked ≡ true) ↔ Asked) where
  rows_none_out : first q 0 rows ≡ None → (i : ℕ) → i < length rows → Passes i
  rows_none_out e i l = (pass i l).0 (first_none_out q d 0 rows e i i (omega arith) l)

  rows_none_in : ((i : ℕ) → i < length rows → Passes i) → first q 0 rows ≡ None
  rows_none_in h = first_none_in q d 0 rows (λ k j a l. let b : k ≡ j = omega arith in subst (λ v. q v (get_or rows k d) ≡ None) b ((pass k l).1 (h k l)))

  rows_some_in : (f : SheetFault) (i : ℕ) → i < length rows → ((j : ℕ) → j < i → Passes j) → Fails i f → first q 0 rows ≡ Some f
  rows_some_in f i l before h = first_some_in q d 0 rows f i (
    l,
    (λ j n a m. let b : j ≡ n = omega arith in subst (λ v. q v (get_or rows j d) ≡ None) b ((pass j (omega arith)).1 (before j m))),
    (λ n a. let b : i ≡ n = omega arith in subst (λ v. q v (get_or rows i d) ≡ Some f) b ((fail i f l).1 h)),
  )

  pub checked_accepted : (sheet_fault (length rows) (first q 0 rows) asked ≡ None) ↔ (Counted (length rows) × ((i : ℕ) → i < length rows → Passes i) × Asked)
  checked_accepted = (out, into)
    where
      out : sheet_fault (length rows) (first q 0 rows) asked ≡ None → Counted (length rows) × ((i : ℕ) → i < length rows → Passes i) × Asked
      out e =
          let a = cond_none (counted (length rows)) _ RowCount e in
          let b = or_none (first q 0 rows) (cond asked None (Some NotAsked)) a.1 in
          (counted_out (length rows) a.0, rows_none_out b.0, ask.0 (cond_none asked None NotAsked b.1).0)

      into : Counted (length rows) × ((i : ℕ) → i < length rows → Passes i) × Asked → sheet_fault (length rows) (first q 0 rows) asked ≡ None
      into h = cond_yes (counted (length rows)) _ RowCount (counted_in (length rows) h.0) ∙ or_right (first q 0 rows) _ (rows_none_in h.1) ∙ cond_yes asked None NotAsked (ask.1 h.2)

  pub checked_refused : (f : SheetFault) → (sheet_fault (length rows) (first q 0 rows) asked ≡ Some f) ↔ Refused (length rows) Passes Fails Asked f
  checked_refused f = (out, into)
    where
      late : Counted (length rows) → (first q 0 rows ≡ None) × (cond asked None (Some NotAsked) ≡ Some f) → Refused (length rows) Passes Fails Asked f
      late c h = elim (cond_some asked None NotAsked f h.1) [
        | inl w ↦ absurd (none-some f w.1)
        | inr w ↦ by_asked w.1 c (rows_none_out h.0) (λ a. both_ways asked w.0 (ask.1 a))
      ]

      found : Counted (length rows) → first q 0 rows ≡ Some f → Refused (length rows) Passes Fails Asked f
      found c e = let r = first_some_out q d 0 rows f e in by_row r.0 c r.1.0 (λ j l. (pass j (omega (arith, r.1.0))).0 (r.1.1 j j (omega arith) l)) ((fail r.0 f r.1.0).0 (r.1.2 r.0 (omega arith)))

      out : sheet_fault (length rows) (first q 0 rows) asked ≡ Some f → Refused (length rows) Passes Fails Asked f
      out e = elim (cond_some (counted (length rows)) _ RowCount f e) [
        | inl w ↦ elim (or_some (first q 0 rows) _ f w.1) [
          | inl h ↦ found (counted_out (length rows) w.0) h
          | inr h ↦ late (counted_out (length rows) w.0) h
        ]
        | inr w ↦ by_count w.1 (λ c. both_ways (counted (length rows)) w.0 (counted_in (length rows) c))
      ]

      into : Refused (length rows) Passes Fails Asked f → sheet_fault (length rows) (first q 0 rows) asked ≡ Some f
      into (by_count e n) = cond_no (counted (length rows)) _ RowCount f (off (counted (length rows)) (λ b. n (counted_out (length rows) b))) e
      into (by_row i c l before h) = cond_yes (counted (length rows)) _ RowCount (counted_in (length rows) c) ∙ or_left (first q 0 rows) _ f (rows_some_in f i l before h)
      into (by_asked e c all n) = cond_yes (counted (length rows)) _ RowCount (counted_in (length rows) c) ∙ or_right (first q 0 rows) _ (rows_none_in all) ∙ cond_no asked None NotAsked f (off asked (λ b. n (ask.0 b))) e
