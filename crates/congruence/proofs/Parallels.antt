-- Parallel keeps equality.
use Rattle.std.proofs.Common.{◌≡◌, ℕ, zero, suc, ◌+◌, ◌*◌, ◌/◌, ◌%◌, ◌<◌, Bool, true, not, ◌&&◌, T, eqb, ltb, ◌⊎◌, List, [], ◌∷◌, map, filter, sym, refl, ap, ◌∙◌, subst, subst₂, inl, inr, mul_comm, arith, eqb→eq, ltb→lt, lt→ltb, lt-ltb}
use mathlib.Core.List.Memᴰ
use mathlib.Core.List.{Memᴰ}
use Rattle.std.specs.List.{flat_map}
use Rattle.std.proofs.lemmas.Nat.{mul-add-lt, div-mul-add, mod-mul-add, div_below, mod_below}
use Rattle.theory.specs.Codes.{visible, meets}
use Rattle.theory.specs.Systems.{Move, Lts, Moves}
use Rattle.theory.specs.Operators.{placed, meeting, meetings, parallel, parallel_moves}
use Rattle.theory.specs.Equivalence.{InRange}
use Rattle.theory.proofs.Equivalence.{flipped}
use Rattle.theory.proofs.Truth.{and_pair, pair_and}
use Rattle.theory.proofs.Members.{kept_in, kept_out}
use Rattle.congruence.specs.Congruences.{ParallelCongruence}
use Rattle.congruence.proofs.Guarded.{May, Guarded, Prioritised, guarded, answer}
use Rattle.congruence.proofs.Placed.{placed_in, placed_out, has_along}

-- a transition that two make together
pub record Met (n2 : ℕ) (ms ks : List Move) (x : Move) : Type 0 where
  pub m : Move
  pub k : Move
  pub m_in : Memᴰ m ms
  pub k_in : Memᴰ k ks
  pub meet : T (meets m.0 k.0)
  pub is : meeting n2 m k ≡ x

met_in : (n2 : ℕ) (m k : Move) {ms : List Move} (ks : List Move) → Memᴰ m ms → Memᴰ k ks → T (meets m.0 k.0) → Memᴰ (meeting n2 m k) (flat_map (meetings n2 ks) ms)
met_in n2 m k ks (Memᴰ.head {x = y} {xs = ys} e) h t =
    Memᴰ.append_left _ (subst (λ (z : Move). Memᴰ {A = Move} (meeting n2 m k) (meetings n2 ks z)) e (Memᴰ.map (meeting n2 m) (kept_in (λ (k : Move). meets m.0 k.0) h t)))
met_in n2 m k ks (Memᴰ.tail {x = y} {xs = ys} e) h t = Memᴰ.append_right (meetings n2 ks y) (met_in n2 m k ks e h t)

met_out : (n2 : ℕ) {x : Move} (ms ks : List Move) → Memᴰ x (flat_map (meetings n2 ks) ms) → Met n2 ms ks x
met_out n2 [] ks h = absurd (Memᴰ.not-nil h)
met_out n2 {x} (m ∷ ms) ks h = go (met_out n2 ms ks) (Memᴰ.append_cases (meetings n2 ks m) h)
  where
    go : (Memᴰ x (flat_map (meetings n2 ks) ms) → Met n2 ms ks x) → Memᴰ x (meetings n2 ks m) ⊎ Memᴰ x (flat_map (meetings n2 ks) ms) → Met n2 (m ∷ ms) ks x
    go below (inl h) =
        let o = Memᴰ.of_map (meeting n2 m) (filter (λ (k : Move). meets m.0 k.0) ks) h in
        let q = kept_out (λ (k : Move). meets m.0 k.0) ks o.1 in
        record { m = m; k = o.0; m_in = Memᴰ.head refl; k_in = q.0; meet = q.1; is = o.2 }
    go below (inr h) = let r = below h in record { m = r.m; k = r.k; m_in = Memᴰ.tail r.m_in; k_in = r.k_in; meet = r.meet; is = r.is }

-- the state p of a parallel of n1 and n2 states, and its two parts
pub record PairState (n1 n2 p : ℕ) : Type 0 where
  pub low : p < n1 * n2
  pub first : p / n2 < n1
  pub second : p % n2 < n2

some : (n1 n2 p : ℕ) → p < n1 * n2 → 0 < n2
some n1 zero p l = absurd (omega arith)
some n1 (suc n2) p l = omega arith

pub pair_state : (n1 n2 p : ℕ) → p < n1 * n2 → PairState n1 n2 p
pair_state n1 n2 p l = record { low = l; first = div_below p n2 n1 (some n1 n2 p l) l; second = mod_below p n2 (some n1 n2 p l) }

pub pair_low : (n1 n2 x y : ℕ) → x < n1 → y < n2 → x * n2 + y < n1 * n2
pair_low n1 n2 x y l r = omega (arith, mul-add-lt x n2 y n1 l r, mul_comm n2 n1)

-- the transitions of a parallel, in and out
module _ (M N : Lts) (p : ℕ) (l : p < M.n * N.n) where
  own : List Move
  own = parallel_moves N.n (p / N.n) (p % N.n) (M.moves (p / N.n)) (N.moves (p % N.n))

  parallel_own : (parallel M N).moves p ≡ own
  unfolding own
  parallel_own = let low : ltb p (M.n * N.n) ≡ true = lt-ltb p (M.n * N.n) l in rw low

  pub data Step (a x : ℕ) : Type 0 where
    by_left : (s : ℕ) → Moves M (p / N.n) a s → s * N.n + p % N.n ≡ x → Step a x
    by_right : (t : ℕ) → Moves N (p % N.n) a t → t * 1 + p / N.n * N.n ≡ x → Step a x
    by_both : Met N.n (M.moves (p / N.n)) (N.moves (p % N.n)) (a, x) → Step a x

  pub step_out : (a x : ℕ) → Moves (parallel M N) p a x → Step a x
  unfolding own
  step_out a x h = elim (Memᴰ.append_cases (map (placed N.n (p % N.n)) (M.moves (p / N.n))) (has_along a x parallel_own h)) [
    | inl i ↦ let o = placed_out N.n (p % N.n) (M.moves (p / N.n)) a x i in by_left o.0 o.1 o.2
    | inr r ↦ elim (Memᴰ.append_cases (map (placed 1 (p / N.n * N.n)) (N.moves (p % N.n))) r) [
      | inl i ↦ let o = placed_out 1 (p / N.n * N.n) (N.moves (p % N.n)) a x i in by_right o.0 o.1 o.2
      | inr i ↦ by_both (met_out N.n (M.moves (p / N.n)) (N.moves (p % N.n)) i)
    ]
  ]

  left_in : (a s : ℕ) → Moves M (p / N.n) a s → Moves (parallel M N) p a (s * N.n + p % N.n)
  unfolding own
  left_in a s h = has_along a (s * N.n + p % N.n) (sym parallel_own) (Memᴰ.append_left _ (placed_in N.n (p % N.n) a s (s * N.n + p % N.n) h refl))

  right_in : (a t : ℕ) → Moves N (p % N.n) a t → Moves (parallel M N) p a (p / N.n * N.n + t)
  unfolding own
  right_in a t h = has_along a (p / N.n * N.n + t) (sym parallel_own)
      (Memᴰ.append_right (map (placed N.n (p % N.n)) (M.moves (p / N.n))) (Memᴰ.append_left _ (placed_in 1 (p / N.n * N.n) a t (p / N.n * N.n + t) h (omega arith))))

  both_in : (a b s t : ℕ) → Moves M (p / N.n) a s → Moves N (p % N.n) b t → T (meets a b) → Moves (parallel M N) p (a % 2) (s * N.n + t)
  unfolding own
  both_in a b s t h k w = has_along (a % 2) (s * N.n + t) (sym parallel_own)
      (Memᴰ.append_right (map (placed N.n (p % N.n)) (M.moves (p / N.n))) (Memᴰ.append_right (map (placed 1 (p / N.n * N.n)) (N.moves (p % N.n))) (met_in N.n (a, s) (b, t) (N.moves (p % N.n)) h k w)))

meet_class : (a b : ℕ) → T (meets a b) → a % 2 ≡ b % 2
meet_class a b h =
    let class = eqb (a % 2) (b % 2) in
    let other = not (eqb (a / 2 % 2) (b / 2 % 2)) in
    let channel = eqb (a / 4) (b / 4) in
    eqb→eq (a % 2) (b % 2) (and_pair class other (and_pair channel (class && other) (and_pair (visible b) (channel && (class && other)) (and_pair (visible a) (visible b && (channel && (class && other))) h).1).1).1).0

-- states whose parts are related
record Both (M M' N N' : Lts) (R S : ℕ → ℕ → Type 0) (p q : ℕ) : Type 0 where
  first : R (p / N.n) (q / N'.n)
  second : S (p % N.n) (q % N'.n)
  low : p < M.n * N.n
  low' : q < M'.n * N'.n

module _ (M M' N N' : Lts) (R S : ℕ → ℕ → Type 0) where
  both : (x x' y y' : ℕ) → x < M.n → x' < M'.n → y < N.n → y' < N'.n → R x x' → S y y' → Both M M' N N' R S (x * N.n + y) (x' * N'.n + y')
  both x x' y y' k k' l l' r s = record {
    first = subst₂ R (sym (div-mul-add x N.n y l)) (sym (div-mul-add x' N'.n y' l')) r;
    second = subst₂ S (sym (mod-mul-add x N.n y l)) (sym (mod-mul-add x' N'.n y' l')) s;
    low = pair_low M.n N.n x y k l;
    low' = pair_low M'.n N'.n x' y' k' l';
  }

  module _ (b : Prioritised M M' R) (c : Prioritised N N' S) (rM : InRange M) (rM' : InRange M') (rN : InRange N) (rN' : InRange N') where
    half : (p q : ℕ) → Both M M' N N' R S p q → Guarded (parallel M N) (parallel M' N') (Both M M' N N' R S) p q
    half p q h a x move may = go (step_out M N p h.low a x move)
      where
        i : PairState M.n N.n p
        i = pair_state M.n N.n p h.low

        j : PairState M'.n N'.n q
        j = pair_state M'.n N'.n q h.low'

        may_left : (e : ℕ) → e % 2 ≡ a % 2 → May M (p / N.n) e
        may_left e same = elim may [ inl o ↦ inl (same ∙ o) | inr k ↦ inr (λ z m. k _ (left_in M N p h.low 1 z m)) ]

        may_right : (e : ℕ) → e % 2 ≡ a % 2 → May N (p % N.n) e
        may_right e same = elim may [ inl o ↦ inl (same ∙ o) | inr k ↦ inr (λ z m. k _ (right_in M N p h.low 1 z m)) ]

        Goal : ℕ → ℕ → Type 0
        Goal a x = (y : ℕ) × Moves (parallel M' N') q a y × Both M M' N N' R S x y

        go : Step M N p h.low a x → Goal a x
        go (by_left s m e) =
            let w = answer M M' R b (p / N.n) (q / N'.n) h.first a s m (may_left a refl) in
            subst (Goal a) e (
              w.0 * N'.n + q % N'.n,
              left_in M' N' q h.low' a w.0 w.1,
              both s w.0 (p % N.n) (q % N'.n) (rM (p / N.n) a s i.first m) (rM' (q / N'.n) a w.0 j.first w.1) i.second j.second w.2 h.second,
            )
        go (by_right t m e) =
            let w = answer N N' S c (p % N.n) (q % N'.n) h.second a t m (may_right a refl) in
            let at : p / N.n * N.n + t ≡ x = omega (arith, e) in
            subst (Goal a) at (
              q / N'.n * N'.n + w.0,
              right_in M' N' q h.low' a w.0 w.1,
              both (p / N.n) (q / N'.n) t w.0 i.first j.first (rN (p % N.n) a t i.second m) (rN' (q % N'.n) a w.0 j.second w.1) h.first w.2,
            )
        go (by_both t) =
            let m = t.m in
            let k = t.k in
            let code : m.0 % 2 ≡ a = ap (λ (z : Move). z.0) t.is in
            let target : m.1 * N.n + k.1 ≡ x = ap (λ (z : Move). z.1) t.is in
            let em : m.0 % 2 ≡ a % 2 = omega arith in
            let ek : k.0 % 2 ≡ a % 2 = sym (meet_class m.0 k.0 t.meet) ∙ em in
            let v = answer M M' R b (p / N.n) (q / N'.n) h.first m.0 m.1 t.m_in (may_left m.0 em) in
            let w = answer N N' S c (p % N.n) (q % N'.n) h.second k.0 k.1 t.k_in (may_right k.0 ek) in
            subst₂ Goal code target (
              v.0 * N'.n + w.0,
              both_in M' N' q h.low' m.0 k.0 v.0 w.0 v.1 w.1 t.meet,
              both m.1 v.0 k.1 w.0
                  (rM (p / N.n) m.0 m.1 i.first t.m_in) (rM' (q / N'.n) m.0 v.0 j.first v.1)
                  (rN (p % N.n) k.0 k.1 i.second t.k_in) (rN' (q % N'.n) k.0 w.0 j.second w.1) v.2 w.2,
            )

turned : (M M' N N' : Lts) (R S : ℕ → ℕ → Type 0) (p q : ℕ) → Both M M' N N' R S p q → Both M' M N' N (λ y x. R x y) (λ y x. S x y) q p
turned M M' N N' R S p q h = record { first = h.first; second = h.second; low = h.low'; low' = h.low }

pub parallel_congruence : ParallelCongruence
parallel_congruence M M' N N' s s' t t' in_M in_M' in_N in_N' e f = (
  Z,
  guarded (parallel M N) (parallel M' N') (λ p q. T (Z p q)) go goes,
  enter _ _ (both M M' N N' R S s s' t t' in_M.state in_M'.state in_N.state in_N'.state e.2 f.2),
)
  where
    R : ℕ → ℕ → Type 0
    R x y = T (e.0 x y)

    S : ℕ → ℕ → Type 0
    S x y = T (f.0 x y)

    Z : ℕ → ℕ → Bool
    Z p q = e.0 (p / N.n) (q / N'.n) && (f.0 (p % N.n) (q % N'.n) && (ltb p (M.n * N.n) && ltb q (M'.n * N'.n)))

    enter : (p q : ℕ) → Both M M' N N' R S p q → T (Z p q)
    enter p q h = pair_and (e.0 (p / N.n) (q / N'.n)) _ h.first (pair_and (f.0 (p % N.n) (q % N'.n)) _ h.second
        (pair_and (ltb p (M.n * N.n)) _ (lt→ltb p (M.n * N.n) h.low) (lt→ltb q (M'.n * N'.n) h.low')))

    leave : (p q : ℕ) → T (Z p q) → Both M M' N N' R S p q
    leave p q h =
        let u = and_pair (e.0 (p / N.n) (q / N'.n)) _ h in
        let v = and_pair (f.0 (p % N.n) (q % N'.n)) _ u.1 in
        let w = and_pair (ltb p (M.n * N.n)) _ v.1 in
        record { first = u.0; second = v.0; low = ltb→lt p (M.n * N.n) w.0; low' = ltb→lt q (M'.n * N'.n) w.1 }

    go : (p q : ℕ) → T (Z p q) → Guarded (parallel M N) (parallel M' N') (λ p q. T (Z p q)) p q
    go p q h a x m may =
        let w = half M M' N N' R S e.1 f.1 in_M.range in_M'.range in_N.range in_N'.range p q (leave p q h) a x m may in
        (w.0, w.1, enter x w.0 w.2)

    goes : (p q : ℕ) → T (Z p q) → Guarded (parallel M' N') (parallel M N) (λ q p. T (Z p q)) q p
    goes p q h a x m may =
        let w = half M' M N' N (λ y x. R x y) (λ y x. S x y) (flipped e.1) (flipped f.1) in_M'.range in_M.range in_N'.range in_N.range
        q p (turned M M' N N' R S p q (leave p q h)) a x m may in
        (w.0, w.1, enter w.0 x (turned M' M N' N (λ y x. R x y) (λ y x. S x y) x w.0 w.2))
