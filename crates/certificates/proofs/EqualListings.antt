-- The listing of a relation that is closed under answers is an accepted equal sheet; so equal sheets are as good as bisimulations.
use Rattle.std.proofs.Common.{◌≡◌, ℕ, ◌+◌, ◌*◌, ◌/◌, ◌%◌, ◌<◌, ◌≤◌, Bool, true, T, List, length, sym, ap, ◌∙◌, subst, inl, inr, eq-zero-or-pos, mul-le-mul, mul-zero, arith}
use mathlib.Core.List.Memᴰ
use Rattle.std.proofs.lemmas.List.{length-map}
use Rattle.std.proofs.lemmas.Nat.{mul-add-lt, div-mul-add, mod-mul-add, div_below, mod_below, div-add-mod'}
use Rattle.theory.specs.Systems.{Lts, Lawful}
use Rattle.theory.specs.Bisimulations.{Answers, Bisimilar}
use Rattle.refinement.proofs.Truths.{holds, is_true}
use Rattle.certificates.specs.declared.rows.EqualRow.{EqualRow}
use Rattle.certificates.specs.EqualSheets.{Listed, listed, AcceptedEqual, EqualSheets}
use Rattle.certificates.specs.Listings.{numbers, pair_at, equal_listing}
use Rattle.certificates.proofs.Members.{mem_place, target_below}
use Rattle.certificates.proofs.Numbers.{numbers_in, numbers_out, length-numbers}
use Rattle.certificates.proofs.EqualTold.{listed_told}

pub pair_is : (n2 x y : ℕ) → y < n2 → ◌≡◌ {A = EqualRow} (record { left = x; right = y }) (pair_at n2 (x * n2 + y))
pair_is n2 x y l = ap (λ (a : ℕ). record { left = a; right = y }) (sym (div-mul-add x n2 y l)) ∙ ap (λ (b : ℕ). record { left = (x * n2 + y) / n2; right = b }) (sym (mod-mul-add x n2 y l))

pub number_below : (n1 n2 x y : ℕ) → x < n1 → y < n2 → x * n2 + y < n1 * n2
number_below n1 n2 x y a b = omega (arith, mul-add-lt x n2 y n1 a b)

pub some_right : (n1 n2 i : ℕ) → i < n1 * n2 → 0 < n2
some_right n1 n2 i h = elim (eq-zero-or-pos n2) [
  | inl e ↦ absurd (omega (arith, ap (λ k. n1 * k) e, mul-zero n1))
  | inr p ↦ p
]

pub pairs_few : (M N : Lts) → Lawful M → Lawful N → M.n * N.n ≤ 1048576
pairs_few M N lM lN = mul-le-mul lM.few lN.few

module _ (M N : Lts) (lM : Lawful M) (lN : Lawful N) (p : ℕ → Bool) where
  pub listing_in : (x y : ℕ) → x < M.n → y < N.n → p (x * N.n + y) ≡ true → Listed (equal_listing N.n p (M.n * N.n)) x y
  listing_in x y a b h = Memᴰ.cast (pair_is N.n x y b) (Memᴰ.map (pair_at N.n) (numbers_in p (M.n * N.n) (x * N.n + y) (number_below M.n N.n x y a b) h))

  pub listing_out : (x y : ℕ) → Listed (equal_listing N.n p (M.n * N.n)) x y → (x < M.n) × (y < N.n) × (p (x * N.n + y) ≡ true)
  listing_out x y m =
      let w = Memᴰ.of_map (pair_at N.n) (numbers p (M.n * N.n)) m in
      let i = w.0 in
      let h = numbers_out p (M.n * N.n) i w.1 in
      let pos = some_right M.n N.n i h.0 in
      let ex : i / N.n ≡ x = ap (λ (r : EqualRow). r.left) w.2 in
      let ey : i % N.n ≡ y = ap (λ (r : EqualRow). r.right) w.2 in
      let back : i ≡ x * N.n + y = sym (div-add-mod' i N.n) ∙ ap (λ a. a * N.n + i % N.n) ex ∙ ap (λ b. x * N.n + b) ey in
      (subst (λ v. v < M.n) ex (div_below i N.n M.n pos h.0), subst (λ v. v < N.n) ey (mod_below i N.n pos), subst (λ v. p v ≡ true) back h.1)

  -- p is closed: what it holds together answers within it
  abbrev pub Closed : Type 0
  Closed = (x y : ℕ) → x < M.n → y < N.n → p (x * N.n + y) ≡ true → Answers M N (λ a b. p (a * N.n + b) ≡ true) x y × Answers N M (λ b a. p (a * N.n + b) ≡ true) y x

  pub listing_accepted : Closed → (s t : ℕ) → s < M.n → t < N.n → p (s * N.n + t) ≡ true → AcceptedEqual M N (equal_listing N.n p (M.n * N.n)) s t
  listing_accepted closed s t ls lt h = record {
    count = (some, few);
    exist = λ x y m. let o = listing_out x y m in (o.0, o.1);
    bisimulation = record { there = there; back = back };
    asked = listing_in s t ls lt h;
  }
    where
      some : 1 ≤ length (equal_listing N.n p (M.n * N.n))
      some = let w = mem_place {X = EqualRow} (record { left = 0; right = 0 }) (listing_in s t ls lt h) in omega (arith, w.1)

      few : length (equal_listing N.n p (M.n * N.n)) ≤ 1048576
      few = omega (arith, length-map (numbers p (M.n * N.n)) (pair_at N.n), length-numbers p (M.n * N.n), pairs_few M N lM lN)

      there : (x y : ℕ) → Listed (equal_listing N.n p (M.n * N.n)) x y → Answers M N (Listed (equal_listing N.n p (M.n * N.n))) x y
      there x y m a x' k =
          let o = listing_out x y m in
          let w = (closed x y o.0 o.1 o.2).0 a x' k in
          (w.0, w.1, listing_in x' w.0 (target_below M lM x a x' k) (target_below N lN y a w.0 w.1) w.2)

      back : (x y : ℕ) → Listed (equal_listing N.n p (M.n * N.n)) x y → Answers N M (λ b a. Listed (equal_listing N.n p (M.n * N.n)) a b) y x
      back x y m a y' k =
          let o = listing_out x y m in
          let w = (closed x y o.0 o.1 o.2).1 a y' k in
          (w.0, w.1, listing_in w.0 y' (target_below M lM x a w.0 w.1) (target_below N lN y a y' k) w.2)

-- an accepted sheet is a bisimulation
accepted_bisimilar : (M N : Lts) (rows : List EqualRow) (s t : ℕ) → AcceptedEqual M N rows s t → Bisimilar M N s t
accepted_bisimilar M N rows s t h = (listed rows, record { there = there; back = back }, test s t h.asked)
  where
    test : (x y : ℕ) → Listed rows x y → T (listed rows x y)
    test x y m = holds (listed rows x y) ((listed_told rows x y).1 m)

    told : (x y : ℕ) → T (listed rows x y) → Listed rows x y
    told x y e = (listed_told rows x y).0 (is_true (listed rows x y) e)

    there : (x y : ℕ) → T (listed rows x y) → Answers M N (λ a b. T (listed rows a b)) x y
    there x y e a x' m = let w = h.bisimulation.there x y (told x y e) a x' m in (w.0, w.1, test x' w.0 w.2)

    back : (x y : ℕ) → T (listed rows x y) → Answers N M (λ b a. T (listed rows a b)) y x
    back x y e a y' m = let w = h.bisimulation.back x y (told x y e) a y' m in (w.0, w.1, test w.0 y' w.2)

-- a bisimulation, listed
bisimilar_accepted : (M N : Lts) → Lawful M → Lawful N → (s t : ℕ) → s < M.n → t < N.n → Bisimilar M N s t → (rows : List EqualRow) × AcceptedEqual M N rows s t
bisimilar_accepted M N lM lN s t ls lt b = (equal_listing N.n p (M.n * N.n), listing_accepted M N lM lN p closed s t ls lt (into s t lt b.2))
  where
    p : ℕ → Bool
    p i = b.0 (i / N.n) (i % N.n)

    same : (x y : ℕ) → y < N.n → p (x * N.n + y) ≡ b.0 x y
    same x y l = (ap (λ v. b.0 v ((x * N.n + y) % N.n)) (div-mul-add x N.n y l) ∙ ap (b.0 x) (mod-mul-add x N.n y l))

    into : (x y : ℕ) → y < N.n → T (b.0 x y) → p (x * N.n + y) ≡ true
    into x y l h = same x y l ∙ is_true (b.0 x y) h

    out : (x y : ℕ) → y < N.n → p (x * N.n + y) ≡ true → T (b.0 x y)
    out x y l e = holds (b.0 x y) (sym (same x y l) ∙ e)

    closed : (x y : ℕ) → x < M.n → y < N.n → p (x * N.n + y) ≡ true → Answers M N (λ a b. p (a * N.n + b) ≡ true) x y × Answers N M (λ b a. p (a * N.n + b) ≡ true) y x
    closed x y lx ly h = (
      (λ a x' m. let w = b.1.there x y (out x y ly h) a x' m in (w.0, w.1, into x' w.0 (target_below N lN y a w.0 w.1) w.2)),
      (λ a y' m. let w = b.1.back x y (out x y ly h) a y' m in (w.0, w.1, into w.0 y' (target_below N lN y a y' m) w.2)),
    )

pub equal_sheets : EqualSheets
equal_sheets M N lM lN s t ls lt = ((λ w. accepted_bisimilar M N w.0 s t w.1), bisimilar_accepted M N lM lN s t ls lt)
