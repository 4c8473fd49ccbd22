-- What an operator makes of designs whose transitions lead from states to states is such a design again.
use Rattle.std.proofs.Common.{◌≡◌, ℕ, zero, suc, ◌+◌, ◌-◌, ◌*◌, ◌/◌, ◌%◌, ◌<◌, Bool, true, false, cond, map, ap, subst, inl, inr, arith}
use mathlib.Core.List.Memᴰ
use Rattle.std.proofs.lemmas.Bool.{cases_lt}
use Rattle.theory.specs.Systems.{Move, Lts, Moves}
use Rattle.theory.specs.Layers.{patient}
use Rattle.theory.specs.Codes.{renamed, raised, lowered}
use Rattle.theory.specs.Operators.{placed, recoded, recoded_moves, open_move, nil, prefix, sum, parallel, restrict, rename, raise, lower}
use Rattle.theory.specs.Equivalence.{InRange}
use Rattle.theory.proofs.Members.{kept_out}
use Rattle.congruence.specs.Congruences.{Within}
use Rattle.congruence.proofs.Placed.{Has, placed_out, has_along}
use Rattle.congruence.proofs.Sums.{prefix_later, sum_left, sum_right}
use Rattle.congruence.proofs.Parallels.{PairState, pair_state, pair_low, Step, step_out}

pub within_nil : Within nil 0
within_nil = record { state = omega arith; range = λ s a t l m. absurd (Memᴰ.not-nil m) }

pub within_prefix : (a : ℕ) (M : Lts) (p : ℕ) → Within M p → Within (prefix a p M) 0
within_prefix a M p w = record { state = omega arith; range = go }
  where
    go : InRange (prefix a p M)
    go zero c t l m = elim (Memᴰ.cases_cons m) [
      | inl e ↦ let is : t ≡ p + 1 = ap (λ (z : Move). z.1) e in let low = w.state in omega arith
      | inr k ↦ absurd (Memᴰ.not-nil k)
    ]
    go (suc s) c t l m =
        let o = placed_out 1 1 (M.moves s) c t (has_along c t (prefix_later a p M s) m) in
        let low : o.0 < M.n = w.range s c o.0 (omega arith) o.1 in
        omega (arith, o.2)

pub within_sum : (M N : Lts) (p q : ℕ) → Within M p → Within N q → Within (sum p q M N) 0
within_sum M N p q u v = record { state = omega arith; range = go }
  where
    left : (s c t : ℕ) → s < M.n → Has (map (placed 1 1) (M.moves s)) c t → t < M.n + N.n + 1
    left s c t l m =
        let o = placed_out 1 1 (M.moves s) c t m in
        let low : o.0 < M.n = u.range s c o.0 l o.1 in
        omega (arith, o.2)

    right : (s c t : ℕ) → s < N.n → Has (map (placed 1 (M.n + 1)) (N.moves s)) c t → t < M.n + N.n + 1
    right s c t l m =
        let o = placed_out 1 (M.n + 1) (N.moves s) c t m in
        let low : o.0 < N.n = v.range s c o.0 l o.1 in
        omega (arith, o.2)

    go : InRange (sum p q M N)
    go zero c t l m = elim (Memᴰ.append_cases (map (placed 1 1) (M.moves p)) m) [
      | inl k ↦ left p c t u.state k
      | inr k ↦ right q c t v.state k
    ]
    go (suc s) c t l m = elim (cases_lt s M.n) [
      | inl k ↦ left s c t k (has_along c t (sum_left p q M N s k) m)
      | inr k ↦
          let is : s ≡ M.n + (s - M.n) = omega arith in
          let m' : Moves (sum p q M N) (suc (M.n + (s - M.n))) c t = subst (λ z. Moves (sum p q M N) (suc z) c t) is m in
          right (s - M.n) c t (omega arith) (has_along c t (sum_right p q M N (s - M.n)) m')
    ]

pub within_parallel : (M N : Lts) (s t : ℕ) → Within M s → Within N t → Within (parallel M N) (s * N.n + t)
within_parallel M N s t u v = record { state = pair_low M.n N.n s t u.state v.state; range = go }
  where
    go : InRange (parallel M N)
    go p a x l m = step (step_out M N p l a x m)
      where
        i : PairState M.n N.n p
        i = pair_state M.n N.n p l

        step : Step M N p l a x → x < M.n * N.n
        step (Step.by_left s k e) = subst (λ z. z < M.n * N.n) e (pair_low M.n N.n s (p % N.n) (u.range (p / N.n) a s i.first k) i.second)
        step (Step.by_right t k e) =
            let low : p / N.n * N.n + t < M.n * N.n = pair_low M.n N.n (p / N.n) t i.first (v.range (p % N.n) a t i.second k) in
            omega (arith, e)
        step (Step.by_both t) = subst (λ z. z < M.n * N.n) (ap (λ (z : Move). z.1) t.is)
            (pair_low M.n N.n t.m.1 t.k.1 (u.range (p / N.n) t.m.0 t.m.1 i.first t.m_in) (v.range (p % N.n) t.k.0 t.k.1 i.second t.k_in))

pub within_restrict : (first second : ℕ) (M : Lts) (s : ℕ) → Within M s → Within (restrict first second M) s
within_restrict first second M s w = record { state = w.state; range = λ s a t l m. w.range s a t l (kept_out (open_move first second) (M.moves s) m).0 }

-- a recoding of actions leads where the transition led
recoded_to : (f : ℕ → ℕ) (M : Lts) → InRange M → (s a t : ℕ) → s < M.n → Has (map (recoded f) (M.moves s)) a t → t < M.n
recoded_to f M range s a t l m =
    let o = Memᴰ.of_map (recoded f) (M.moves s) m in
    subst (λ z. z < M.n) (ap (λ (z : Move). z.1) o.2) (range s o.0.0 o.0.1 l o.1)

calmly_to : (f : ℕ → ℕ) (M : Lts) → InRange M → (s a t : ℕ) → s < M.n → Has (recoded_moves f (M.moves s)) a t → t < M.n
calmly_to f M range s a t l m = go (patient (M.moves s)) m
  where
    go : (b : Bool) → Has (cond b (map (recoded f) (M.moves s)) (M.moves s)) a t → t < M.n
    go true k = recoded_to f M range s a t l k
    go false k = range s a t l k

pub within_rename : (class from to : ℕ) (M : Lts) (s : ℕ) → Within M s → Within (rename class from to M) s
within_rename class from to M s w = record { state = w.state; range = recoded_to (renamed class from to) M w.range }

pub within_raise : (first second : ℕ) (M : Lts) (s : ℕ) → Within M s → Within (raise first second M) s
within_raise first second M s w = record { state = w.state; range = calmly_to (raised first second) M w.range }

pub within_lower : (first second : ℕ) (M : Lts) (s : ℕ) → Within M s → Within (lower first second M) s
within_lower first second M s w = record { state = w.state; range = calmly_to (lowered first second) M w.range }
