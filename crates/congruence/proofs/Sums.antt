-- Prefix and sum keep equality.
use Rattle.std.proofs.Common.{◌≡◌, ℕ, zero, suc, ◌+◌, ◌-◌, ◌<◌, ◌≤◌, Bool, true, false, ◌&&◌, ◌||◌, T, eqb, ltb, leb, [], ◌∷◌, map, sym, refl, ap, subst, subst₂, inl, inr, arith, le→leb, eqb→eq, ltb→lt, lt→ltb, leb→le, ne_eqb, le-leb}
use mathlib.Core.List.Memᴰ
use mathlib.Core.List.{Memᴰ}
use borrow.Author.Tests.{lt-leb}
use Rattle.theory.specs.Systems.{Move, Lts}
use Rattle.theory.specs.Operators.{placed, prefix, prefix_moves, sum, sum_moves}
use Rattle.theory.proofs.Equivalence.{flipped}
use Rattle.theory.proofs.Truth.{eq_T, and_pair, pair_and, or_sum, or_inl, or_inr}
use Rattle.congruence.specs.Congruences.{Within, PrefixCongruence, SumCongruence}
use Rattle.congruence.proofs.Guarded.{May, Guarded, Prioritised, guarded, answer}
use Rattle.congruence.proofs.Placed.{Has, placed_in, placed_out, has_along}

-- Prefix: 0 goes with 0, and the states above with those that R pairs.
abbrev after : (ℕ → ℕ → Bool) → ℕ → ℕ → Bool
after R zero zero = true
after R zero (suc y) = false
after R (suc x) zero = false
after R (suc x) (suc y) = R x y

pub prefix_later : (a p : ℕ) (M : Lts) (x : ℕ) → prefix_moves a p M (suc x) ≡ map (placed 1 1) (M.moves x)
prefix_later a p M x =
    let later : eqb (suc x) 0 ≡ false = ne_eqb (suc x) 0 (λ e. omega arith) in
    let down : suc x - 1 ≡ x = omega arith in
    rw (later, down)

prefix_half : (a : ℕ) (M N : Lts) (p q : ℕ) (R : ℕ → ℕ → Bool) → Prioritised M N (λ x y. T (R x y)) → T (R p q)
    → (x y : ℕ) → T (after R x y) → Guarded (prefix a p M) (prefix a q N) (λ x y. T (after R x y)) x y
prefix_half a M N p q R b r zero zero h c x' m may = elim (Memᴰ.cases_cons m) [
  | inl e ↦
      let code : c ≡ a = ap (λ (z : Move). z.0) e in
      let above : p + 1 ≡ x' = sym (ap (λ (z : Move). z.1) e) in
      let target : suc p ≡ x' = omega arith in
      let next : q + 1 ≡ suc q = omega arith in (
        suc q,
        subst₂ (λ z y. Has ((a, q + 1) ∷ []) z y) (sym code) next (Memᴰ.head refl),
        subst (λ z. T (after R z (suc q))) target r,
      )
  | inr k ↦ absurd (Memᴰ.not-nil k)
]
prefix_half a M N p q R b r zero (suc y) h c x' m may = absurd h
prefix_half a M N p q R b r (suc x) zero h c x' m may = absurd h
prefix_half a M N p q R b r (suc x) (suc y) h c x' m may =
    let o = placed_out 1 1 (M.moves x) c x' (has_along c x' (prefix_later a p M x) m) in
    let below : May M x c = elim may [
      | inl u ↦ inl u
      | inr k ↦ inr (λ z j. k (suc z) (has_along 1 (suc z) (sym (prefix_later a p M x)) (placed_in 1 1 1 z (suc z) j (omega arith))))
    ] in
    let w = answer M N (λ x y. T (R x y)) b x y h c o.0 o.1 below in
    let is : suc o.0 ≡ x' = omega (arith, o.2) in (
      suc w.0,
      has_along c (suc w.0) (sym (prefix_later a q N y)) (placed_in 1 1 c w.0 (suc w.0) w.1 (omega arith)),
      subst (λ z. T (after R z (suc w.0))) is w.2,
    )

flip_after : (R : ℕ → ℕ → Bool) (x y : ℕ) → T (after R x y) → T (after (λ y x. R x y) y x)
flip_after R zero zero h = h
flip_after R zero (suc y) h = h
flip_after R (suc x) zero h = h
flip_after R (suc x) (suc y) h = h

pub prefix_congruence : PrefixCongruence
prefix_congruence a M N p q e = (
  after e.0,
  guarded (prefix a p M) (prefix a q N) (λ x y. T (after e.0 x y))
      (prefix_half a M N p q e.0 e.1 e.2)
      (λ x y h c y' m may.
      let w = prefix_half a N M q p (λ y x. e.0 x y) (flipped e.1) e.2 y x (flip_after e.0 x y h) c y' m may in
      (w.0, w.1, flip_after (λ y x. e.0 x y) y' w.0 w.2)),
  tt,
)

-- Sum: 0 goes with 0, left states with left ones that R pairs, right states with right ones that S pairs.
data Sides (n n' : ℕ) (R S : ℕ → ℕ → Type 0) (x y : ℕ) : Type 0 where
  top : x ≡ 0 → y ≡ 0 → Sides n n' R S x y
  left : (s s' : ℕ) → s < n → s' < n' → R s s' → suc s ≡ x → suc s' ≡ y → Sides n n' R S x y
  right : (t t' : ℕ) → S t t' → suc (n + t) ≡ x → suc (n' + t') ≡ y → Sides n n' R S x y

flip_sides : (n n' : ℕ) (R S : ℕ → ℕ → Type 0) (x y : ℕ) → Sides n n' R S x y → Sides n' n (λ y x. R x y) (λ y x. S x y) y x
flip_sides n n' R S x y (top e f) = top f e
flip_sides n n' R S x y (left s s' l l' r e f) = left s' s l' l r f e
flip_sides n n' R S x y (right t t' r e f) = right t' t r f e

module _ (p q : ℕ) (M N : Lts) where
  pub sum_left : (s : ℕ) → s < M.n → sum_moves p q M N (suc s) ≡ map (placed 1 1) (M.moves s)
  sum_left s l =
      let later : eqb (suc s) 0 ≡ false = ne_eqb (suc s) 0 (λ e. omega arith) in
      let low : leb (suc s) M.n ≡ true = le-leb (suc s) M.n (omega arith) in
      let down : suc s - 1 ≡ s = omega arith in
      rw (later, low, down)

  pub sum_right : (t : ℕ) → sum_moves p q M N (suc (M.n + t)) ≡ map (placed 1 (M.n + 1)) (N.moves t)
  sum_right t =
      let later : eqb (suc (M.n + t)) 0 ≡ false = ne_eqb (suc (M.n + t)) 0 (λ e. omega arith) in
      let high : leb (suc (M.n + t)) M.n ≡ false = lt-leb (suc (M.n + t)) M.n (omega arith) in
      let down : suc (M.n + t) - 1 - M.n ≡ t = omega arith in
      rw (later, high, down)

module _ (M M' N N' : Lts) (p p' q q' : ℕ) (R S : ℕ → ℕ → Type 0) where
  Side : ℕ → ℕ → Type 0
  Side x y = Sides M.n M'.n R S x y

  module _ (b : Prioritised M M' R) (c : Prioritised N N' S) (in_M : Within M p) (in_M' : Within M' p') (r : R p p') (k : S q q') where
    from_left : (s s' : ℕ) → s < M.n → s' < M'.n → R s s' → (a x : ℕ) → Has (map (placed 1 1) (M.moves s)) a x → May M s a
        → (y : ℕ) × Has (map (placed 1 1) (M'.moves s')) a y × Side x y
    unfolding Side
    from_left s s' l l' h a x m may =
        let o = placed_out 1 1 (M.moves s) a x m in
        let w = answer M M' R b s s' h a o.0 o.1 may in (
          suc w.0,
          placed_in 1 1 a w.0 (suc w.0) w.1 (omega arith),
          left o.0 w.0 (in_M.range s a o.0 l o.1) (in_M'.range s' a w.0 l' w.1) w.2 (omega (arith, o.2)) refl,
        )

    from_right : (t t' : ℕ) → S t t' → (a x : ℕ) → Has (map (placed 1 (M.n + 1)) (N.moves t)) a x → May N t a
        → (y : ℕ) × Has (map (placed 1 (M'.n + 1)) (N'.moves t')) a y × Side x y
    unfolding Side
    from_right t t' h a x m may =
        let o = placed_out 1 (M.n + 1) (N.moves t) a x m in
        let w = answer N N' S c t t' h a o.0 o.1 may in (
          suc (M'.n + w.0),
          placed_in 1 (M'.n + 1) a w.0 (suc (M'.n + w.0)) w.1 (omega arith),
          right o.0 w.0 w.2 (omega (arith, o.2)) refl,
        )

    at_top : Guarded (sum p q M N) (sum p' q' M' N') Side 0 0
    at_top a x m may = elim (Memᴰ.append_cases (map (placed 1 1) (M.moves p)) m) [
      | inl j ↦
          let may_left : May M p a = elim may [ inl u ↦ inl u | inr f ↦ inr (λ z i. f (suc z) (Memᴰ.append_left _ (placed_in 1 1 1 z (suc z) i (omega arith)))) ] in
          let w = from_left p p' in_M.state in_M'.state r a x j may_left in
          (w.0, Memᴰ.append_left _ w.1, w.2)
      | inr j ↦
          let may_right : May N q a = elim may [ inl u ↦ inl u | inr f ↦ inr (λ z i. f (suc (M.n + z)) (Memᴰ.append_right (map (placed 1 1) (M.moves p)) (placed_in 1 (M.n + 1) 1 z (suc (M.n + z)) i (omega arith)))) ] in
          let w = from_right q q' k a x j may_right in
          (w.0, Memᴰ.append_right (map (placed 1 1) (M'.moves p')) w.1, w.2)
    ]

    at_left : (s s' : ℕ) → s < M.n → s' < M'.n → R s s' → Guarded (sum p q M N) (sum p' q' M' N') Side (suc s) (suc s')
    at_left s s' l l' h a x m may =
        let below : May M s a = elim may [
          | inl u ↦ inl u
          | inr f ↦ inr (λ z i. f (suc z) (has_along 1 (suc z) (sym (sum_left p q M N s l)) (placed_in 1 1 1 z (suc z) i (omega arith))))
        ] in
        let w = from_left s s' l l' h a x (has_along a x (sum_left p q M N s l) m) below in
        (w.0, has_along a w.0 (sym (sum_left p' q' M' N' s' l')) w.1, w.2)

    at_right : (t t' : ℕ) → S t t' → Guarded (sum p q M N) (sum p' q' M' N') Side (suc (M.n + t)) (suc (M'.n + t'))
    at_right t t' h a x m may =
        let below : May N t a = elim may [
          | inl u ↦ inl u
          | inr f ↦ inr (λ z i. f (suc (M.n + z)) (has_along 1 (suc (M.n + z)) (sym (sum_right p q M N t)) (placed_in 1 (M.n + 1) 1 z (suc (M.n + z)) i (omega arith))))
        ] in
        let w = from_right t t' h a x (has_along a x (sum_right p q M N t) m) below in
        (w.0, has_along a w.0 (sym (sum_right p' q' M' N' t')) w.1, w.2)

    sum_half : (x y : ℕ) → Sides M.n M'.n R S x y → Guarded (sum p q M N) (sum p' q' M' N') (Sides M.n M'.n R S) x y
    unfolding Side
    sum_half x y (top e f) = subst₂ (λ x y. Guarded (sum p q M N) (sum p' q' M' N') Side x y) (sym e) (sym f) at_top
    sum_half x y (left s s' l l' h e f) = subst₂ (λ x y. Guarded (sum p q M N) (sum p' q' M' N') Side x y) e f (at_left s s' l l' h)
    sum_half x y (right t t' h e f) = subst₂ (λ x y. Guarded (sum p q M N) (sum p' q' M' N') Side x y) e f (at_right t t' h)

-- the same relation as a test
module _ (n n' : ℕ) (R S : ℕ → ℕ → Bool) where
  lefts : ℕ → ℕ → Bool
  lefts x y = leb 1 x && (leb x n && (leb 1 y && (leb y n' && R (x - 1) (y - 1))))

  rights : ℕ → ℕ → Bool
  rights x y = ltb n x && (ltb n' y && S (x - 1 - n) (y - 1 - n'))

  tested : ℕ → ℕ → Bool
  tested x y = (eqb x 0 && eqb y 0) || (lefts x y || rights x y)

  enter : (x y : ℕ) → Sides n n' (λ x y. T (R x y)) (λ x y. T (S x y)) x y → T (tested x y)
  unfolding tested lefts rights
  enter x y (top e f) = or_inl (eqb x 0 && eqb y 0) _ (pair_and (eqb x 0) (eqb y 0) (eq_T e) (eq_T f))
  enter x y (left s s' l l' r e f) =
      let u : s ≡ x - 1 = omega arith in
      let v : s' ≡ y - 1 = omega arith in
      or_inr (eqb x 0 && eqb y 0) _ (or_inl (lefts x y) _
      (pair_and (leb 1 x) _ (le→leb 1 x (omega arith)) (pair_and (leb x n) _ (le→leb x n (omega arith))
      (pair_and (leb 1 y) _ (le→leb 1 y (omega arith)) (pair_and (leb y n') _ (le→leb y n' (omega arith)) (subst₂ (λ x y. T (R x y)) u v r))))))
  enter x y (right t t' r e f) =
      let u : t ≡ x - 1 - n = omega arith in
      let v : t' ≡ y - 1 - n' = omega arith in
      or_inr (eqb x 0 && eqb y 0) _ (or_inr (lefts x y) _
      (pair_and (ltb n x) _ (lt→ltb n x (omega arith)) (pair_and (ltb n' y) _ (lt→ltb n' y (omega arith)) (subst₂ (λ x y. T (S x y)) u v r))))

  leave : (x y : ℕ) → T (tested x y) → Sides n n' (λ x y. T (R x y)) (λ x y. T (S x y)) x y
  unfolding tested lefts rights
  leave x y h = elim (or_sum (eqb x 0 && eqb y 0) _ h) [
    | inl k ↦ let z = and_pair (eqb x 0) (eqb y 0) k in top (eqb→eq x 0 z.0) (eqb→eq y 0 z.1)
    | inr k ↦ elim (or_sum (lefts x y) (rights x y) k) [
      | inl j ↦
          let a = and_pair (leb 1 x) _ j in
          let b = and_pair (leb x n) _ a.1 in
          let c = and_pair (leb 1 y) _ b.1 in
          let d = and_pair (leb y n') _ c.1 in
          let a' : 1 ≤ x = leb→le 1 x a.0 in
          let b' : x ≤ n = leb→le x n b.0 in
          let c' : 1 ≤ y = leb→le 1 y c.0 in
          let d' : y ≤ n' = leb→le y n' d.0 in
          left (x - 1) (y - 1) (omega arith) (omega arith) d.1 (omega arith) (omega arith)
      | inr j ↦
          let a = and_pair (ltb n x) _ j in
          let b = and_pair (ltb n' y) _ a.1 in
          let a' : n < x = ltb→lt n x a.0 in
          let b' : n' < y = ltb→lt n' y b.0 in
          right (x - 1 - n) (y - 1 - n') b.1 (omega arith) (omega arith)
    ]
  ]

pub sum_congruence : SumCongruence
sum_congruence M M' N N' p p' q q' in_M in_M' e f = (
  tested M.n M'.n e.0 f.0,
  guarded (sum p q M N) (sum p' q' M' N') (λ x y. T (tested M.n M'.n e.0 f.0 x y)) go goes,
  enter M.n M'.n e.0 f.0 0 0 (top refl refl),
)
  where
    R : ℕ → ℕ → Type 0
    R x y = T (e.0 x y)

    S : ℕ → ℕ → Type 0
    S x y = T (f.0 x y)

    Z : ℕ → ℕ → Type 0
    Z x y = T (tested M.n M'.n e.0 f.0 x y)

    go : (x y : ℕ) → Z x y → Guarded (sum p q M N) (sum p' q' M' N') Z x y
    go x y h a x' m may =
        let w = sum_half M M' N N' p p' q q' R S e.1 f.1 in_M in_M' e.2 f.2 x y (leave M.n M'.n e.0 f.0 x y h) a x' m may in
        (w.0, w.1, enter M.n M'.n e.0 f.0 x' w.0 w.2)

    goes : (x y : ℕ) → Z x y → Guarded (sum p' q' M' N') (sum p q M N) (λ y x. Z x y) y x
    goes x y h a y' m may =
        let here = flip_sides M.n M'.n R S x y (leave M.n M'.n e.0 f.0 x y h) in
        let w = sum_half M' M N' N p' p q' q (λ y x. R x y) (λ y x. S x y) (flipped e.1) (flipped f.1) in_M' in_M e.2 f.2 y x here a y' m may in
        (w.0, w.1, enter M.n M'.n e.0 f.0 w.0 y' (flip_sides M'.n M.n (λ y x. R x y) (λ y x. S x y) y' w.0 w.2))
