-- A different sheet as it is written is accepted; and an accepted one refutes every bisimulation.
use Rattle.std.proofs.Common.{◌≡◌, ℕ, zero, suc, ◌+◌, ◌-◌, ◌*◌, ◌/◌, ◌%◌, ◌<◌, ◌≤◌, true, not, T, ltb, List, [], ◌∷◌, ◌++◌, map, length, get_or, Some, None, Option, sym, refl, ap, ◌∙◌, subst, inl, inr, append_assoc, arith, length-append}
use mathlib.Core.List.Memᴰ
use mathlib.Core.List.{Memᴰ}
use Rattle.std.specs.List.{range_with_len}
use Rattle.std.proofs.lemmas.List.FromFn.{length-range_with_len}
use Rattle.std.proofs.lemmas.List.{length-map, get_or-map, get_or_append_left, get_or_push, length_push}
use Rattle.std.proofs.lemmas.Nat.{div-mul-add, mod-mul-add, div_below, mod_below}
use Rattle.std.proofs.lemmas.List.Filters.{length-filter_both}
use Rattle.std.proofs.lemmas.Bool.{cases_lt, and_parts, ltb-true}
use Rattle.std.proofs.lemmas.Bool.Decides.{nat_tests}
use Rattle.theory.specs.Systems.{Lts, Lawful}
use Rattle.theory.specs.Bisimulations.{Bisimilar}
use Rattle.certificates.specs.declared.rows.DifferentRow.{DifferentRow}
use Rattle.certificates.specs.EqualSheets.{Exists}
use Rattle.certificates.specs.DifferentSheets.{different_row, Earlier, move_at, Cornered, PassesDifferent, by_left, by_right, Last, AcceptedDifferent}
use Rattle.certificates.specs.Listings.{rounds, different_numbers, before, cell_entry, DifferentListing}
use Rattle.certificates.proofs.Members.{mem_at, mem_place, target_below}
use Rattle.certificates.proofs.Numbers.{rounds_in, rounds_out, rounds_front, length-rounds, within, numbers_in}
use Rattle.certificates.proofs.EqualListings.{number_below, some_right, pairs_few}
use Rattle.certificates.proofs.Entries.{Entered, entry_out}

-- no bisimulation holds a pair of an accepted sheet
module _ (M N : Lts) (rows : List DifferentRow) (passes : (i : ℕ) → i < length rows → PassesDifferent M N rows i) (s t : ℕ) (b : Bisimilar M N s t) where
  refuted : (n i : ℕ) → i < n → i < length rows → T (b.0 (different_row rows i).left (different_row rows i).right) → ⊥
  refuted zero i l h r = absurd (omega arith)
  refuted (suc n) i l h r = at (λ j lj hj. refuted n j (omega arith) hj) (passes i h)
    where
      before_it : (x y : ℕ) → ((j : ℕ) → j < i → j < length rows → T (b.0 (different_row rows j).left (different_row rows j).right) → ⊥) → Earlier rows i x y → T (b.0 x y) → ⊥
      before_it x y below e q = below e.0 e.1 (omega (arith, e.1)) (subst (λ v. T (b.0 v (different_row rows e.0).right)) (sym e.2) (subst (λ v. T (b.0 x v)) (sym e.3) q))

      at : ((j : ℕ) → j < i → j < length rows → T (b.0 (different_row rows j).left (different_row rows j).right) → ⊥) → PassesDifferent M N rows i → ⊥
      at below (by_left _ _ c) =
          let m = move_at M (different_row rows i).left (different_row rows i).k in
          let w = b.1.there (different_row rows i).left (different_row rows i).right r m.0 m.1 (mem_at (0, 0) (M.moves (different_row rows i).left) (different_row rows i).k c.0) in
          before_it m.1 w.0 below (c.1 w.0 w.1) w.2
      at below (by_right _ _ c) =
          let m = move_at N (different_row rows i).right (different_row rows i).k in
          let w = b.1.back (different_row rows i).left (different_row rows i).right r m.0 m.1 (mem_at (0, 0) (N.moves (different_row rows i).right) (different_row rows i).k c.0) in
          before_it w.0 m.1 below (c.1 w.0 w.1) w.2

pub accepted_different_out : (M N : Lts) (rows : List DifferentRow) (s t : ℕ) → AcceptedDifferent M N rows s t → Bisimilar M N s t → ⊥
accepted_different_out M N rows s t a b =
    let i = length rows - 1 in
    refuted M N rows a.passes s t b (length rows) i (omega (arith, a.count.0)) (omega (arith, a.count.0))
    (subst (λ v. T (b.0 v (different_row rows i).right)) (sym a.asked.0) (subst (λ v. T (b.0 s v)) (sym a.asked.1) b.2))

-- In the list of a sheet, the pairs of lower rounds stand before.
module _ (cell : ℕ → ℕ) (n m a : ℕ) (round : cell a ≡ suc m) (inside : a < n) where
  list : List ℕ
  list = rounds cell n m ++ (a ∷ [])

  member : (j : ℕ) → j < length list → (get_or list j 0 < n) × (0 < cell (get_or list j 0)) × (cell (get_or list j 0) ≤ suc m)
  unfolding list
  member j l = elim (Memᴰ.append_cases (rounds cell n m) (mem_at 0 (rounds cell n m ++ (a ∷ [])) j l)) [
    | inl k ↦ let h = rounds_out cell n m (get_or (rounds cell n m ++ (a ∷ [])) j 0) k in (h.0, h.1, omega (arith, h.2))
    | inr k ↦ let e = Memᴰ.eq_of_singleton k in (subst (λ v. v < n) (sym e) inside, subst (λ v. 0 < cell v) (sym e) (omega arith), subst (λ v. cell v ≤ suc m) (sym e) (omega arith))
  ]

  sooner : (j q : ℕ) → j < length list → q < n → 0 < cell q → cell q < cell (get_or list j 0) → (p : ℕ) × (p < j) × (p < length list) × (get_or list p 0 ≡ q)
  sooner j q l lq pos less = go (rounds_front cell n u m (omega (arith, top)))
    where
      top : cell (get_or list j 0) ≤ suc m
      top = (member j l).2

      u : ℕ
      u = cell (get_or list j 0) - 1

      go : (rest : List ℕ) × (rounds cell n m ≡ rounds cell n u ++ rest) → (p : ℕ) × (p < j) × (p < length list) × (get_or list p 0 ≡ q)
      go f =
          let pre = rounds cell n u in
          let whole : list ≡ pre ++ (f.0 ++ (a ∷ [])) = unfold list in (ap (λ ys. ys ++ (a ∷ [])) f.1 ∙ append_assoc pre f.0 (a ∷ [])) in
          let w = mem_place 0 (rounds_in cell n u q lq pos (omega arith)) in
          let same : (k : ℕ) → k < length pre → get_or list k 0 ≡ get_or pre k 0 = λ k h. ap (λ ys. get_or ys k 0) whole ∙ get_or_append_left pre (f.0 ++ (a ∷ [])) 0 k h in
          let late : length pre ≤ j = elim (cases_lt j (length pre)) [
            | inl h ↦ let o = rounds_out cell n u (get_or pre j 0) (mem_at 0 pre j h) in let e = ap cell (same j h) in absurd (omega (arith, o.2, o.1, e))
            | inr h ↦ h
          ] in
          let long : length list ≡ length pre + length (f.0 ++ (a ∷ [])) = ap length whole ∙ length-append pre (f.0 ++ (a ∷ [])) in
          (w.0, omega (arith, w.1), omega (arith, w.1), same w.0 w.1 ∙ w.2)

  pub list_length : length (rounds cell n m ++ (a ∷ [])) ≤ n
  list_length =
      let all = length-filter_both (within cell m) (λ i. not (within cell m i)) (λ i. refl) (range_with_len 0 n) in
      let out : not (within cell m a) ≡ true = grind (arith, nat_tests) in
      let w = mem_place 0 (numbers_in (λ i. not (within cell m i)) n a inside out) in
      omega (arith, all, w.1, length-rounds cell n m, length-range_with_len 0 n, length_push (rounds cell n m) a)

-- the rows of a listing, one by one
module _ (M N : Lts) (lM : Lawful M) (lN : Lawful N) (cell : ℕ → ℕ) (a m : ℕ) (round : cell a ≡ suc m) (inside : a < M.n * N.n)
    (rows : List DifferentRow) (is : map (cell_entry M N cell) (rounds cell (M.n * N.n) m ++ (a ∷ [])) ≡ map Some rows) where
  nums : List ℕ
  nums = list cell (M.n * N.n) m a round inside

  same_length : length nums ≡ length rows
  unfolding nums list
  same_length = sym (length-map (rounds cell (M.n * N.n) m ++ (a ∷ [])) (cell_entry M N cell)) ∙ ap length is ∙ length-map rows Some

  entered : (j : ℕ) → j < length rows → Entered M N (before cell N.n (cell (get_or nums j 0))) (get_or nums j 0 / N.n) (get_or nums j 0 % N.n) (different_row rows j)
  unfolding nums list
  entered j l =
      let short : j < length (rounds cell (M.n * N.n) m ++ (a ∷ [])) = omega (arith, same_length) in
      entry_out M N (before cell N.n (cell (get_or nums j 0))) (get_or nums j 0 / N.n) (get_or nums j 0 % N.n) (different_row rows j)
      (sym (get_or-map (cell_entry M N cell) (rounds cell (M.n * N.n) m ++ (a ∷ [])) j 0 None short)
      ∙ ap (λ (os : List (Option DifferentRow)). get_or os j None) is
      ∙ get_or-map Some rows j (record { left = 0; right = 0; side = 0; k = 0 }) None l)

  module _ (j : ℕ) (l : j < length rows) where
    i : ℕ
    i = get_or nums j 0

    facts : (i < M.n * N.n) × (0 < cell i) × (cell i ≤ suc m)
    unfolding i nums
    facts = member cell (M.n * N.n) m a round inside j (unfold nums in omega (arith, same_length))

    row_exists : Exists M N (different_row rows j).left (different_row rows j).right
    unfolding i
    row_exists =
        let e = entered j l in
        let pos = some_right M.n N.n i facts.0 in
        (subst (λ v. v < M.n) (sym e.0) (div_below i N.n M.n pos facts.0), subst (λ v. v < N.n) (sym e.1) (mod_below i N.n pos))

    earlier_row : (x y : ℕ) → x < M.n → y < N.n → before cell N.n (cell i) x y ≡ true → Earlier rows j x y
    unfolding i nums
    earlier_row x y lx ly h =
        let q = x * N.n + y in
        let b = and_parts (ltb 0 (cell q)) (ltb (cell q) (cell i)) h in
        let w = sooner cell (M.n * N.n) m a round inside j q (omega (arith, same_length)) (number_below M.n N.n x y lx ly) (ltb-true 0 (cell q) b.0) (ltb-true (cell q) (cell i) b.1) in
        let p = w.0 in
        let e = entered p (omega (arith, w.2, same_length)) in
        (p, w.1, e.0 ∙ ap (λ v. v / N.n) w.3 ∙ div-mul-add x N.n y ly, e.1 ∙ ap (λ v. v % N.n) w.3 ∙ mod-mul-add x N.n y ly)

    row_passes : PassesDifferent M N rows j
    unfolding i
    row_passes = go (entered j l)
      where
        go : Entered M N (before cell N.n (cell i)) (i / N.n) (i % N.n) (different_row rows j) → PassesDifferent M N rows j
        go e = elim e.2 [
          | inl h ↦ by_left row_exists h.0 (left e.0 e.1 h.1)
          | inr h ↦ by_right row_exists h.0 (right e.0 e.1 h.1)
        ]
          where
            left : (different_row rows j).left ≡ i / N.n → (different_row rows j).right ≡ i % N.n → Cornered M N (λ x y. before cell N.n (cell i) x y ≡ true) (i / N.n) (i % N.n) (different_row rows j).k
                → Cornered M N (Earlier rows j) (different_row rows j).left (different_row rows j).right (different_row rows j).k
            left es et c = subst (λ s. Cornered M N (Earlier rows j) s (different_row rows j).right (different_row rows j).k) (sym es) (subst (λ t. Cornered M N (Earlier rows j) (i / N.n) t (different_row rows j).k) (sym et) (
              c.0,
              λ t' k. let mv = move_at M (i / N.n) (different_row rows j).k in
                  earlier_row mv.1 t' (target_below M lM (i / N.n) mv.0 mv.1 (mem_at (0, 0) (M.moves (i / N.n)) (different_row rows j).k c.0)) (target_below N lN (i % N.n) mv.0 t' k) (c.1 t' k),
            ))

            right : (different_row rows j).left ≡ i / N.n → (different_row rows j).right ≡ i % N.n → Cornered N M (λ y x. before cell N.n (cell i) x y ≡ true) (i % N.n) (i / N.n) (different_row rows j).k
                → Cornered N M (λ y x. Earlier rows j x y) (different_row rows j).right (different_row rows j).left (different_row rows j).k
            right es et c = subst (λ s. Cornered N M (λ y x. Earlier rows j x y) (different_row rows j).right s (different_row rows j).k) (sym es) (subst (λ t. Cornered N M (λ y x. Earlier rows j x y) t (i / N.n) (different_row rows j).k) (sym et) (
              c.0,
              λ s' k. let mv = move_at N (i % N.n) (different_row rows j).k in
                  earlier_row s' mv.1 (target_below M lM (i / N.n) mv.0 s' k) (target_below N lN (i % N.n) mv.0 mv.1 (mem_at (0, 0) (N.moves (i % N.n)) (different_row rows j).k c.0)) (c.1 s' k),
            ))

  last_row : (s t : ℕ) → t < N.n → a ≡ s * N.n + t → Last rows s t
  unfolding nums list
  last_row s t lt e =
      let long = length_push (rounds cell (M.n * N.n) m) a in
      let end : length (rounds cell (M.n * N.n) m) ≡ length rows - 1 = omega (arith, same_length) in
      let h = entered (length rows - 1) (omega (arith, same_length)) in
      let at : get_or nums (length rows - 1) 0 ≡ s * N.n + t = get_or_push (rounds cell (M.n * N.n) m) a 0 (length rows - 1) end ∙ e in
      (h.0 ∙ ap (λ v. v / N.n) at ∙ div-mul-add s N.n t lt, h.1 ∙ ap (λ v. v % N.n) at ∙ mod-mul-add s N.n t lt)

  pub rows_accepted : (s t : ℕ) → t < N.n → a ≡ s * N.n + t → AcceptedDifferent M N rows s t
  unfolding nums list
  rows_accepted s t lt e = record {
    count = (omega (arith, same_length, length_push (rounds cell (M.n * N.n) m) a), omega (arith, same_length, list_length cell (M.n * N.n) m a round inside, pairs_few M N lM lN));
    passes = row_passes;
    asked = last_row s t lt e;
  }

pub different_listing_accepted : (M N : Lts) → Lawful M → Lawful N → (cell : ℕ → ℕ) (s t : ℕ) → s < M.n → t < N.n → 0 < cell (s * N.n + t) → (rows : List DifferentRow) → DifferentListing M N cell (s * N.n + t) rows → AcceptedDifferent M N rows s t
different_listing_accepted M N lM lN cell s t ls lt pos rows is =
    let a = s * N.n + t in
    rows_accepted M N lM lN cell a (cell a - 1) (omega arith) (number_below M.n N.n s t ls lt) rows is s t lt refl

-- a listing exists where each pair that it names has its move
pub all_some : {X Y : Type 0} (f : X → Option Y) (xs : List X) → ((x : X) → Memᴰ x xs → (y : Y) × (f x ≡ Some y)) → (ys : List Y) × (map f xs ≡ map Some ys)
all_some f [] h = ([], refl)
all_some f (x ∷ xs) h =
    let w = h x (Memᴰ.head refl) in
    let r = all_some f xs (λ z m. h z (Memᴰ.tail m)) in
    (w.0 ∷ r.0, ap (λ o. o ∷ map f xs) w.1 ∙ ap (λ os. Some w.0 ∷ os) r.1)

abbrev pub Backed : Lts → Lts → (ℕ → ℕ) → Type 0
Backed M N cell = (i : ℕ) → i < M.n * N.n → 0 < cell i → (r : DifferentRow) × (cell_entry M N cell i ≡ Some r)

pub listing_exists : (M N : Lts) (cell : ℕ → ℕ) → Backed M N cell → (a : ℕ) → a < M.n * N.n → 0 < cell a → (rows : List DifferentRow) × DifferentListing M N cell a rows
listing_exists M N cell backed a inside pos = all_some (cell_entry M N cell) (different_numbers cell (M.n * N.n) a) (λ i k.
    elim (Memᴰ.append_cases (rounds cell (M.n * N.n) (cell a - 1)) k) [
      | inl h ↦ let o = rounds_out cell (M.n * N.n) (cell a - 1) i h in backed i o.0 o.1
      | inr h ↦ let e = Memᴰ.eq_of_singleton h in backed i (subst (λ v. v < M.n * N.n) (sym e) inside) (subst (λ v. 0 < cell v) (sym e) pos)
    ])
