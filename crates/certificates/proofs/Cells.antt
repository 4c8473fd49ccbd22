-- Cells that tell the rounds: the pairs at zero are closed, every other pair has its move, and such cells exist.
use Rattle.std.proofs.Common.{◌≡◌, ℕ, zero, suc, ◌+◌, ◌-◌, ◌*◌, ◌/◌, ◌%◌, ◌<◌, ◌≤◌, true, not, T, ltb, ◌⊎◌, List, Some, sym, ap, ◌∙◌, subst, inl, inr, arith}
use mathlib.Core.List.{Memᴰ}
use Rattle.std.proofs.lemmas.Nat.{div-mul-add, mod-mul-add, div_below, mod_below, div-add-mod'}
use Rattle.std.proofs.lemmas.Bool.{cases_Bool, cases_lt, both_ways, not-true, not-false, and_from, lt-ltb, eq-eqb, eqb-true}
use Rattle.theory.specs.Systems.{Move, Lts, Lawful}
use Rattle.theory.specs.Bisimulations.{Bisimilar}
use Rattle.refinement.specs.Cells.{unanswered, Loose}
use Rattle.refinement.specs.Rounds.{Kept, StruckIn, Rounds}
use Rattle.refinement.proofs.Ranges.{lawful_in_range}
use Rattle.refinement.proofs.Telling.{told}
use Rattle.refinement.proofs.Rounds.{both_out, both_within, kept_either, kept_down, bisimilar_kept, rounds_exact, rounds_bound, struck_exact}
use Rattle.refinement.proofs.Truths.{is_true}
use Rattle.certificates.specs.declared.rows.DifferentRow.{DifferentRow}
use Rattle.certificates.specs.DifferentSheets.{AcceptedDifferent, DifferentSheets}
use Rattle.certificates.specs.Listings.{is_zero, before, entry}
use Rattle.certificates.proofs.Members.{target_below}
use Rattle.certificates.proofs.EqualListings.{number_below, some_right, Closed}
use Rattle.certificates.proofs.Entries.{Led, entry_some}
use Rattle.certificates.proofs.DifferentListings.{Backed, listing_exists, different_listing_accepted, accepted_different_out}

-- a cell is zero only if its pair is bisimilar, and else it is the round that strikes the pair
abbrev pub Tells : Lts → Lts → (ℕ → ℕ) → Type 0
Tells M N cell = (s t : ℕ) → s < M.n → t < N.n → (cell (s * N.n + t) ≡ 0 → Bisimilar M N s t) × ((k : ℕ) → cell (s * N.n + t) ≡ suc k → StruckIn M N (suc k) s t)

module _ (M N : Lts) (lM : Lawful M) (lN : Lawful N) (cell : ℕ → ℕ) (tells : Tells M N cell) where
  zero_from : (s t : ℕ) → s < M.n → t < N.n → Bisimilar M N s t → cell (s * N.n + t) ≡ 0
  zero_from s t ls lt b = elim (cases_lt 0 (cell (s * N.n + t))) [
    | inl p ↦
        let v = cell (s * N.n + t) - 1 in
        absurd ((struck_exact M N (lawful_in_range M lM) (lawful_in_range N lN) s t ls lt).0 (suc v, (tells s t ls lt).1 v (omega arith)) b)
    | inr z ↦ omega arith
  ]

  pub zeros_closed : Closed M N lM lN (is_zero cell)
  zeros_closed x y lx ly h =
      let b = (tells x y lx ly).0 (eqb-true (cell (x * N.n + y)) 0 h) in (
        (λ a x' m. let w = b.1.there x y b.2 a x' m in
            (w.0, w.1, eq-eqb _ 0 (zero_from x' w.0 (target_below M lM x a x' m) (target_below N lN y a w.0 w.1) (b.0, b.1, w.2)))),
        (λ a y' m. let w = b.1.back x y b.2 a y' m in
            (w.0, w.1, eq-eqb _ 0 (zero_from w.0 y' (target_below M lM x a w.0 w.1) (target_below N lN y a y' m) (b.0, b.1, w.2)))),
      )

  -- what is not lower than round k + 1 survives k rounds
  late_kept : (k x y : ℕ) → x < M.n → y < N.n → not (before cell N.n (suc k) x y) ≡ true → Kept M N k x y
  late_kept k x y lx ly h = elim (cases_lt 0 (cell (x * N.n + y))) [
    | inl p ↦
        let j = cell (x * N.n + y) - 1 in
        let g = (tells x y lx ly).1 j (omega arith) in
        let late : k ≤ j = elim (cases_lt j k) [
          | inl l ↦ absurd (both_ways (before cell N.n (suc k) x y) (not-true (before cell N.n (suc k) x y) h) (and_from (ltb 0 (cell (x * N.n + y))) (ltb (cell (x * N.n + y)) (suc k)) (lt-ltb 0 (cell (x * N.n + y)) p) (lt-ltb (cell (x * N.n + y)) (suc k) (omega arith))))
          | inr l ↦ l
        ] in
        kept_down M N j k x y late g.0
    | inr z ↦ bisimilar_kept M N k x y ((tells x y lx ly).0 (omega arith))
  ]

  loose_left : (k s t : ℕ) → Loose M N (λ x y. not (before cell N.n (suc k) x y)) s t → (m : Move) × Memᴰ m (M.moves s) × Led N (before cell N.n (suc k)) t m
  loose_left k s t l = ((l.0, l.1), l.2, λ t' i. not-false (before cell N.n (suc k) l.1 t') (l.3 t' i))

  loose_right : (k s t : ℕ) → Loose N M (λ y x. not (before cell N.n (suc k) x y)) t s → (m : Move) × Memᴰ m (N.moves t) × Led M (λ y x. before cell N.n (suc k) x y) s m
  loose_right k s t l = ((l.0, l.1), l.2, λ s' i. not-false (before cell N.n (suc k) s' l.1) (l.3 s' i))

  stuck_there : (k s t : ℕ) → s < M.n → t < N.n → StruckIn M N (suc k) s t → unanswered M N (λ x y. not (before cell N.n (suc k) x y)) s t ≡ true
  stuck_there k s t ls lt h = elim (cases_Bool (unanswered M N (λ x y. not (before cell N.n (suc k) x y)) s t)) [
    | inl y ↦ y
    | inr z ↦
        let both = both_within M N (lawful_in_range M lM) (lawful_in_range N lN) (λ x y. T (not (before cell N.n (suc k) x y))) (Kept M N k)
        (λ x y lx ly q. late_kept k x y lx ly (is_true (not (before cell N.n (suc k) x y)) q)) s t ls lt (both_out M N (λ x y. not (before cell N.n (suc k) x y)) s t z) in
        absurd (h.1 (h.0, both.0, both.1))
  ]

  entry_there : (k s t : ℕ) → s < M.n → t < N.n → StruckIn M N (suc k) s t → (r : DifferentRow) × (entry M N (before cell N.n (suc k)) s t ≡ Some r)
  entry_there k s t ls lt h = elim ((told M N (λ x y. not (before cell N.n (suc k) x y)) s t).0 (stuck_there k s t ls lt h)) [
    | inl l ↦ entry_some M N (before cell N.n (suc k)) s t (inl (loose_left k s t l))
    | inr l ↦ entry_some M N (before cell N.n (suc k)) s t (inr (loose_right k s t l))
  ]

  pub struck_backed : Backed M N cell
  struck_backed i inside pos =
      let p = some_right M.n N.n i inside in
      let ls = div_below i N.n M.n p inside in
      let lt = mod_below i N.n p in
      let k = cell i - 1 in
      let e : suc k ≡ cell i = omega arith in
      let at : cell (i / N.n * N.n + i % N.n) ≡ suc k = ap cell (div-add-mod' i N.n) ∙ sym e in
      let w = entry_there k (i / N.n) (i % N.n) ls lt ((tells (i / N.n) (i % N.n) ls lt).1 k at) in
      subst (λ v. (r : DifferentRow) × (entry M N (before cell N.n v) (i / N.n) (i % N.n) ≡ Some r)) e w

-- cells that tell the rounds
module _ (M N : Lts) (lM : Lawful M) (lN : Lawful N) where
  bisimilar_either : (s t : ℕ) → s < M.n → t < N.n → Bisimilar M N s t ⊎ (Bisimilar M N s t → ⊥)
  bisimilar_either s t ls lt = go (rounds_bound M N)
    where
      go : (r : ℕ) × Rounds M N r × (r ≤ M.n * N.n + 1) → Bisimilar M N s t ⊎ (Bisimilar M N s t → ⊥)
      go (zero, h, l) = absurd h
      go (suc k, h, l) =
          let exact = rounds_exact M N (lawful_in_range M lM) (lawful_in_range N lN) k h.0 s t ls lt in
          elim (kept_either M N k s t) [
            | inl y ↦ inl (exact.0 y)
            | inr n ↦ inr (λ b. n (exact.1 b))
          ]

  abbrev ToldAt : ℕ → ℕ → ℕ → Type 0
  ToldAt s t v = (v ≡ 0 → Bisimilar M N s t) × ((k : ℕ) → v ≡ suc k → StruckIn M N (suc k) s t)

  round_of : (s t : ℕ) → s < M.n → t < N.n → (v : ℕ) × ToldAt s t v
  round_of s t ls lt = elim (bisimilar_either s t ls lt) [
    | inl b ↦ (0, ((λ e. b), (λ k e. absurd (omega arith))))
    | inr n ↦ struck ((struck_exact M N (lawful_in_range M lM) (lawful_in_range N lN) s t ls lt).1 n)
  ]
    where
      struck : (v : ℕ) × StruckIn M N v s t → (v : ℕ) × ToldAt s t v
      struck (zero, h) = absurd h
      struck (suc j, h) = (suc j, ((λ e. absurd (omega arith)), (λ k e. let f : j ≡ k = omega arith in subst (λ v. StruckIn M N (suc v) s t) f h)))

  cell_of : (i : ℕ) → (v : ℕ) × (i < M.n * N.n → ToldAt (i / N.n) (i % N.n) v)
  cell_of i = elim (cases_lt i (M.n * N.n)) [
    | inl l ↦
        let p = some_right M.n N.n i l in
        let w = round_of (i / N.n) (i % N.n) (div_below i N.n M.n p l) (mod_below i N.n p) in
        (w.0, λ _. w.1)
    | inr l ↦ (0, λ h. absurd (omega arith))
  ]

  pub told_cells : (cell : ℕ → ℕ) × Tells M N cell
  told_cells = (
    (λ i. (cell_of i).0),
    λ s t ls lt.
        let i = s * N.n + t in
        let h = (cell_of i).1 (number_below M.n N.n s t ls lt) in
        subst (λ v. ToldAt v t (cell_of i).0) (div-mul-add s N.n t lt) (subst (λ v. ToldAt (i / N.n) v (cell_of i).0) (mod-mul-add s N.n t lt) h),
  )

pub different_sheets : DifferentSheets
different_sheets M N lM lN s t ls lt = ((λ w. accepted_different_out M N w.0 s t w.1), complete)
  where
    complete : (Bisimilar M N s t → ⊥) → (rows : List DifferentRow) × AcceptedDifferent M N rows s t
    complete n =
        let c = told_cells M N lM lN in
        let cell = c.0 in
        let pos : 0 < cell (s * N.n + t) = elim (cases_lt 0 (cell (s * N.n + t))) [
          | inl p ↦ p
          | inr z ↦ absurd (n ((c.1 s t ls lt).0 (omega arith)))
        ] in
        let w = listing_exists M N cell (struck_backed M N lM lN cell c.1) (s * N.n + t) (number_below M.n N.n s t ls lt) pos in
        (w.0, different_listing_accepted M N lM lN cell s t ls lt pos w.0 w.1)
