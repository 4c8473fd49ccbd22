-- The row of a pair from the numbers that the two searches find, and the pairs of a sheet that have none.
use Rattle.std.proofs.Common.{◌≡◌, ℕ, ◌+◌, ◌-◌, ◌*◌, ◌<◌, Bool, true, false, cond, not, ◌&&◌, eqb, ltb, List, [], ◌∷◌, Some, None, Option, sym, refl, ap, ◌∙◌, subst, inl, inr, arith}
use mathlib.Core.List.Memᴰ
use mathlib.Core.List.{Memᴰ}
use Rattle.std.specs.List.{range_with_len}
use Rattle.std.specs.Option.{option_map, is_some}
use Rattle.std.proofs.lemmas.Bool.{cases_Bool, both_ways, false≢true, and_parts, and_from, or_cases, or_left, or_right, ltb-true, lt-ltb, eqb-true, eq-eqb}
use Rattle.theory.specs.Systems.{Move, Lts}
use Rattle.theory.specs.Faults.{or_else, first_fault as first}
use Rattle.refinement.specs.Cells.{some, answered}
use Rattle.refinement.proofs.Telling.{off, some_in, some_out}
use Rattle.answers.specs.Views.{unanswered_number, first_unanswered}
use Rattle.certificates.specs.declared.rows.DifferentRow.{DifferentRow}
use Rattle.certificates.specs.Listings.{rounds, different_numbers, entry_at, entry, cell_entry}
use Rattle.certificates.proofs.Numbers.{counting_in, counting_out, rounds_in, rounds_out}
use Rattle.certificates.proofs.DifferentListings.{Backed}
use Rattle.writers.specs.Writes.{is_none, lower, named, lacks_move}

abbrev pub row_of : ℕ → ℕ → ℕ → ℕ → DifferentRow
row_of s t side k = record { left = s; right = t; side = side; k = k }

-- the row that a search makes
pub entry_numbered : (ok : ℕ → ℕ → Bool) (ks : List Move) (s t side n : ℕ) (ms : List Move)
    → first (entry_at ok ks s t side) n ms ≡ option_map (row_of s t side) (first (unanswered_number (λ x y. not (ok x y)) ks) n ms)
entry_numbered ok ks s t side n [] = refl
entry_numbered ok ks s t side n (m ∷ ms) = go (answered (λ x y. not (ok x y)) ks m) (entry_numbered ok ks s t side (n + 1) ms)
  where
    go : (b : Bool) → first (entry_at ok ks s t side) (n + 1) ms ≡ option_map (row_of s t side) (first (unanswered_number (λ x y. not (ok x y)) ks) (n + 1) ms)
        → or_else (cond (not b) (Some (row_of s t side n)) None) (first (entry_at ok ks s t side) (n + 1) ms) ≡ option_map (row_of s t side) (or_else (cond b None (Some n)) (first (unanswered_number (λ x y. not (ok x y)) ks) (n + 1) ms))
    go true h = h
    go false h = refl

pub entry_found : (ok : ℕ → ℕ → Bool) (ms ks : List Move) (s t side : ℕ) (o : Option ℕ) → o ≡ first_unanswered (λ x y. not (ok x y)) ms ks → option_map (row_of s t side) o ≡ first (entry_at ok ks s t side) 0 ms
entry_found ok ms ks s t side o e = ap (option_map (row_of s t side)) e ∙ sym (entry_numbered ok ks s t side 0 ms)

-- the row of a pair from those that its two sides give
module _ (M N : Lts) (ok : ℕ → ℕ → Bool) (s t : ℕ) (o : Option DifferentRow) (left : o ≡ first (entry_at ok (N.moves t) s t 0) 0 (M.moves s)) where
  pub entry_left : true ≡ is_some o → o ≡ entry M N ok s t
  entry_left h = some_first o _ h ∙ ap (λ v. or_else v (first (entry_at (λ y x. ok x y) (M.moves s) s t 1) 0 (N.moves t))) left
    where
      some_first : {X : Type 0} (v w : Option X) → true ≡ is_some v → v ≡ or_else v w
      some_first None w h = absurd (false≢true (sym h))
      some_first (Some x) w h = refl

  pub entry_right : (v : Option DifferentRow) → false ≡ is_some o → v ≡ first (entry_at (λ y x. ok x y) (M.moves s) s t 1) 0 (N.moves t) → v ≡ entry M N ok s t
  entry_right v h right = right ∙ none_first o _ h ∙ ap (λ u. or_else u (first (entry_at (λ y x. ok x y) (M.moves s) s t 1) 0 (N.moves t))) left
    where
      none_first : {X : Type 0} (u w : Option X) → false ≡ is_some u → w ≡ or_else u w
      none_first None w h = refl
      none_first (Some x) w h = absurd (false≢true h)

-- a pair belongs to the sheet exactly if it is named
module _ (cell : ℕ → ℕ) (n a : ℕ) (inside : a < n) (pos : 0 < cell a) where
  pub named_in : (i : ℕ) → i < n → named cell a i ≡ true → Memᴰ i (different_numbers cell n a)
  named_in i l e = elim (or_cases (lower cell (cell a) i) (eqb i a) e) [
    | inl h ↦ let p = and_parts (ltb 0 (cell i)) (ltb (cell i) (cell a)) h in
        let b = ltb-true (cell i) (cell a) p.1 in
        Memᴰ.append_left (a ∷ []) (rounds_in cell n (cell a - 1) i l (ltb-true 0 (cell i) p.0) (omega arith))
    | inr h ↦ Memᴰ.append_right (rounds cell n (cell a - 1)) (Memᴰ.head (eqb-true i a h))
  ]

  pub named_out : (i : ℕ) → Memᴰ i (different_numbers cell n a) → (i < n) × (named cell a i ≡ true)
  named_out i m = elim (Memᴰ.append_cases (rounds cell n (cell a - 1)) m) [
    | inl h ↦ let o = rounds_out cell n (cell a - 1) i h in
        (o.0, or_left (lower cell (cell a) i) (eqb i a) (and_from (ltb 0 (cell i)) (ltb (cell i) (cell a)) (lt-ltb 0 (cell i) o.1) (lt-ltb (cell i) (cell a) (omega (arith, o.2)))))
    | inr h ↦ let e = Memᴰ.eq_of_singleton h in (subst (λ v. v < n) (sym e) inside, or_right (lower cell (cell a) i) (eqb i a) (eq-eqb i a e))
  ]

  pub missing_named : (f : ℕ → Bool) → some (λ i. named cell a i && f i) (range_with_len 0 n) ≡ some f (different_numbers cell n a)
  missing_named f = elim (cases_Bool (some (λ i. named cell a i && f i) (range_with_len 0 n))) [
    | inl y ↦ let w = some_out (λ i. named cell a i && f i) (range_with_len 0 n) y in
        let p = and_parts (named cell a w.0) (f w.0) w.2 in
        let l = counting_out 0 n w.0 w.1 in
        y ∙ sym (some_in f (named_in w.0 (omega (arith, l.1)) p.0) p.1)
    | inr z ↦ z ∙ sym (off (some f (different_numbers cell n a)) (λ h.
        let w = some_out f (different_numbers cell n a) h in
        let o = named_out w.0 w.1 in
        both_ways (some (λ i. named cell a i && f i) (range_with_len 0 n)) z (some_in (λ i. named cell a i && f i) (counting_in 0 n w.0 (omega arith) (omega (arith, o.0))) (and_from (named cell a w.0) (f w.0) o.1 w.2))))
  ]

-- a sheet that lacks no move
module _ (M N : Lts) (cell : ℕ → ℕ) (a : ℕ) (inside : a < M.n * N.n) (pos : 0 < cell a) where
  pub has_row : lacks_move M N cell a ≡ false → (i : ℕ) → i < M.n * N.n → named cell a i ≡ true → is_none (cell_entry M N cell i) ≡ false
  has_row h i l e = off (is_none (cell_entry M N cell i)) (λ z. both_ways (lacks_move M N cell a) h (some_in (λ j. is_none (cell_entry M N cell j)) (named_in cell (M.n * N.n) a inside pos i l e) z))

  pub has_all : Backed M N cell → lacks_move M N cell a ≡ false
  has_all backed = off (lacks_move M N cell a) (λ h.
      let w = some_out (λ j. is_none (cell_entry M N cell j)) (different_numbers cell (M.n * N.n) a) h in
      let o = named_out cell (M.n * N.n) a inside pos w.0 w.1 in
      let struck : 0 < cell w.0 = elim (or_cases (lower cell (cell a) w.0) (eqb w.0 a) o.1) [
        | inl e ↦ ltb-true 0 (cell w.0) (and_parts (ltb 0 (cell w.0)) (ltb (cell w.0) (cell a)) e).0
        | inr e ↦ subst (λ v. 0 < cell v) (sym (eqb-true w.0 a e)) pos
      ] in
      let r = backed w.0 o.0 struck in
      both_ways (is_none (cell_entry M N cell w.0)) (ap is_none r.1) w.2)
