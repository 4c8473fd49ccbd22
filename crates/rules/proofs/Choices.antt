-- Prefix and sum.
use Rattle.std.proofs.Common.{◌≡◌, ℕ, zero, suc, ◌+◌, ◌-◌, ◌*◌, ◌<◌, cond, leb, [], ◌∷◌, ◌++◌, map, sym, refl, ap, ◌∙◌, subst, inl, inr, arith}
use mathlib.Core.List.Memᴰ
use mathlib.Core.List.{Memᴰ}
use Rattle.std.proofs.lemmas.Bool.{cases_lt, le-leb, lt-leb, ne_eqb}
use Rattle.theory.specs.Systems.{Move, Lts, Moves}
use Rattle.theory.specs.Operators.{placed, prefix, sum}
use Rattle.theory.proofs.OperatorLaws.{Fits, fits}
use Rattle.rules.specs.Rules.{PrefixRule, prefix_acts, prefix_inside, SumRule, sum_left, sum_right, sum_inside_left, sum_inside_right}
use Rattle.rules.specs.Derived.{Exactly, NilDerived, PrefixDerived, SumDerived}
use Rattle.rules.proofs.Tools.{from_state, at}

pub nil_derived : NilDerived
nil_derived = record { derived = λ s a t m. Memᴰ.not-nil m; made = λ s a t r. absurd r }

-- a transition of a state below, shifted
shifted : (M : Lts) (by s a t : ℕ) → Memᴰ {A = Move} (a, t) (map (placed 1 by) (M.moves s)) → (u : ℕ) × Moves M s a u × (by + u ≡ t)
shifted M by s a t m =
    let w = Memᴰ.of_map (placed 1 by) (M.moves s) m in
    let e : w.0.0 ≡ a = ap (λ (k : Move). k.0) w.2 in
    let f : w.0.1 * 1 + by ≡ t = ap (λ (k : Move). k.1) w.2 in
    (w.0.1, subst (λ b. Memᴰ {A = Move} (b, w.0.1) (M.moves s)) e w.1, omega arith)

shift : (M : Lts) (by s a t : ℕ) → Moves M s a t → Memᴰ {A = Move} (a, by + t) (map (placed 1 by) (M.moves s))
shift M by s a t m =
    let e : t * 1 + by ≡ by + t = omega arith in
    subst (λ x. Memᴰ {A = Move} (a, x) (map (placed 1 by) (M.moves s))) e (Memᴰ.map (placed 1 by) m)

prefix_rest : (a p : ℕ) (M : Lts) (s : ℕ) → (prefix a p M).moves (1 + s) ≡ map (placed 1 1) (M.moves s)
prefix_rest a p M s =
    let e : 1 + s - 1 ≡ s = omega arith in
    ap (λ b. cond b ((a, p + 1) ∷ []) (map (placed 1 1) (M.moves (1 + s - 1)))) (ne_eqb (1 + s) 0 (λ z. omega arith)) ∙ ap (λ x. map (placed 1 1) (M.moves x)) e

prefix_out : (a p : ℕ) (M : Lts) (s b t : ℕ) → Moves (prefix a p M) s b t → PrefixRule a p M s b t
prefix_out a p M zero b t m = elim (Memᴰ.cases_cons m) [
  | inl e ↦
      let f : b ≡ a = ap (λ (k : Move). k.0) e in
      let g : t ≡ p + 1 = ap (λ (k : Move). k.1) e in
      at (PrefixRule a p M) refl (sym f) (omega arith) prefix_acts
  | inr k ↦ absurd (Memᴰ.not-nil k)
]
prefix_out a p M (suc s) b t m =
    let e : suc s ≡ 1 + s = omega arith in
    let w = shifted M 1 s b t (subst (Memᴰ {A = Move} (b, t)) (ap (prefix a p M).moves e ∙ prefix_rest a p M s) m) in
    at (PrefixRule a p M) (sym e) refl w.2 (prefix_inside w.1)

prefix_in : (a p : ℕ) (M : Lts) {s b t : ℕ} → PrefixRule a p M s b t → Moves (prefix a p M) s b t
prefix_in a p M prefix_acts = let e : 1 + p ≡ p + 1 = omega arith in Memᴰ.head (ap (λ x. (a, x)) e)
prefix_in a p M (prefix_inside {s} {b} {t} m) = subst (Memᴰ {A = Move} (b, 1 + t)) (sym (prefix_rest a p M s)) (shift M 1 s b t m)

pub prefix_exact : (a p : ℕ) (M : Lts) → Exactly (prefix a p M) (PrefixRule a p M)
prefix_exact a p M = record { derived = prefix_out a p M; made = λ s b t r. prefix_in a p M r }

pub prefix_derived : PrefixDerived
prefix_derived a p M h = prefix_exact a p M

module _ (p q : ℕ) (M N : Lts) (hm : Fits M) where
  sum_first : (s : ℕ) → s < M.n → (sum p q M N).moves (1 + s) ≡ map (placed 1 1) (M.moves s)
  sum_first s l =
      let start = map (placed 1 1) (M.moves p) ++ map (placed 1 (M.n + 1)) (N.moves q) in
      let left = map (placed 1 1) (M.moves (1 + s - 1)) in
      let right = map (placed 1 (M.n + 1)) (N.moves (1 + s - 1 - M.n)) in
      let e : 1 + s - 1 ≡ s = omega arith in
      ap (λ b. cond b start (cond (leb (1 + s) M.n) left right)) (ne_eqb (1 + s) 0 (λ z. omega arith))
      ∙ ap (λ b. cond b left right) (le-leb (1 + s) M.n (omega arith))
      ∙ ap (λ x. map (placed 1 1) (M.moves x)) e

  sum_second : (s : ℕ) → (sum p q M N).moves (1 + M.n + s) ≡ map (placed 1 (M.n + 1)) (N.moves s)
  sum_second s =
      let start = map (placed 1 1) (M.moves p) ++ map (placed 1 (M.n + 1)) (N.moves q) in
      let left = map (placed 1 1) (M.moves (1 + M.n + s - 1)) in
      let right = map (placed 1 (M.n + 1)) (N.moves (1 + M.n + s - 1 - M.n)) in
      let e : 1 + M.n + s - 1 - M.n ≡ s = omega arith in
      ap (λ b. cond b start (cond (leb (1 + M.n + s) M.n) left right)) (ne_eqb (1 + M.n + s) 0 (λ z. omega arith))
      ∙ ap (λ b. cond b left right) (lt-leb (1 + M.n + s) M.n (omega arith))
      ∙ ap (λ x. map (placed 1 (M.n + 1)) (N.moves x)) e

  sum_out : (s a t : ℕ) → Moves (sum p q M N) s a t → SumRule p q M N s a t
  sum_out zero a t m = elim (Memᴰ.append_cases (map (placed 1 1) (M.moves p)) m) [
    | inl k ↦ let w = shifted M 1 p a t k in at (SumRule p q M N) refl refl w.2 (sum_left w.1)
    | inr k ↦ let w = shifted N (M.n + 1) q a t k in let e : 1 + M.n + w.0 ≡ t = omega (arith, w.2) in at (SumRule p q M N) refl refl e (sum_right w.1)
  ]
  sum_out (suc s) a t m = elim (cases_lt s M.n) [
    | inl l ↦
        let e : suc s ≡ 1 + s = omega arith in
        let w = shifted M 1 s a t (subst (Memᴰ {A = Move} (a, t)) (ap (sum p q M N).moves e ∙ sum_first s l) m) in
        at (SumRule p q M N) (sym e) refl w.2 (sum_inside_left w.1)
    | inr g ↦
        let e : suc s ≡ 1 + M.n + (s - M.n) = omega arith in
        let w = shifted N (M.n + 1) (s - M.n) a t (subst (Memᴰ {A = Move} (a, t)) (ap (sum p q M N).moves e ∙ sum_second (s - M.n)) m) in
        let f : 1 + M.n + w.0 ≡ t = omega (arith, w.2) in
        at (SumRule p q M N) (sym e) refl f (sum_inside_right w.1)
  ]

  to_right : (s a t : ℕ) → Moves N s a t → Memᴰ {A = Move} (a, 1 + M.n + t) (map (placed 1 (M.n + 1)) (N.moves s))
  to_right s a t m = let e : M.n + 1 + t ≡ 1 + M.n + t = omega arith in subst (λ x. Memᴰ {A = Move} (a, x) (map (placed 1 (M.n + 1)) (N.moves s))) e (shift N (M.n + 1) s a t m)

  sum_in : {s a t : ℕ} → SumRule p q M N s a t → Moves (sum p q M N) s a t
  sum_in (sum_left {a} {t} m) = Memᴰ.append_left (map (placed 1 (M.n + 1)) (N.moves q)) (shift M 1 p a t m)
  sum_in (sum_right {a} {t} m) = Memᴰ.append_right (map (placed 1 1) (M.moves p)) (to_right q a t m)
  sum_in (sum_inside_left {s} {a} {t} m) = subst (Memᴰ {A = Move} (a, 1 + t)) (sym (sum_first s (from_state M hm s a t m))) (shift M 1 s a t m)
  sum_in (sum_inside_right {s} {a} {t} m) = subst (Memᴰ {A = Move} (a, 1 + M.n + t)) (sym (sum_second s)) (to_right s a t m)

  pub sum_exact : Exactly (sum p q M N) (SumRule p q M N)
  sum_exact = record { derived = sum_out; made = λ s a t r. sum_in r }

pub sum_derived : SumDerived
sum_derived p q M N hm hn = sum_exact p q M N (fits hm)
