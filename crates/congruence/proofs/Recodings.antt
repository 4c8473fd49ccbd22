-- The operators that keep states: restriction, renaming, raising and lowering.
use Rattle.std.proofs.Common.{◌≡◌, ℕ, ◌+◌, ◌*◌, ◌/◌, ◌%◌, Bool, true, false, cond, not, ◌&&◌, T, eqb, map, refl, ap, ◌∙◌, subst, inl, inr, arith, T_not}
use mathlib.Core.List.Memᴰ
use mathlib.Core.List.{Memᴰ}
use Rattle.theory.specs.Codes.{visible, raised, lowered, renamed}
use Rattle.theory.specs.Systems.{Move, Lts, Moves}
use Rattle.theory.specs.Layers.{patient, Patient}
use Rattle.theory.specs.Operators.{recoded, recoded_moves, open_move, restrict, rename, raise, lower}
use Rattle.theory.specs.Bisimulations.{Equal}
use Rattle.theory.proofs.Equivalence.{flipped}
use Rattle.theory.proofs.Standing.{patient_in, patient_out}
use Rattle.theory.proofs.Truth.{T-cases}
use Rattle.theory.proofs.Members.{kept_in, kept_out, cond_first, cond_second, first_cond, second_cond}
use Rattle.congruence.specs.Congruences.{RestrictCongruence, RenameCongruence, RaiseCongruence, LowerCongruence}
use Rattle.congruence.proofs.Guarded.{May, Guarded, Prioritised, guarded, answer, patient_there}

-- One operator F on systems, answered in one direction over every bisimulation, keeps equality.
pub congruent : (F : Lts → Lts) → ((M N : Lts) (R : ℕ → ℕ → Type 0) → Prioritised M N R → (s t : ℕ) → R s t → Guarded (F M) (F N) R s t)
    → (M N : Lts) (s t : ℕ) → Equal M N s t → Equal (F M) (F N) s t
congruent F half M N s t e = (
  e.0,
  guarded (F M) (F N) (λ x y. T (e.0 x y))
      (half M N (λ x y. T (e.0 x y)) e.1)
      (λ s t r. half N M (λ y x. T (e.0 x y)) (flipped e.1) t s r),
  e.2,
)

pub restrict_congruence : RestrictCongruence
restrict_congruence first second = congruent (restrict first second) half
  where
    half : (M N : Lts) (R : ℕ → ℕ → Type 0) → Prioritised M N R → (s t : ℕ) → R s t → Guarded (restrict first second M) (restrict first second N) R s t
    half M N R b s t r a s' m may =
        let k = kept_out (open_move first second) (M.moves s) m in
        let below : May M s a = elim may [ inl o ↦ inl o | inr p ↦ inr (λ z j. p z (kept_in (open_move first second) j tt)) ] in
        let w = answer M N R b s t r a s' k.0 below in
        (w.0, kept_in (open_move first second) w.1 k.1, w.2)

-- A recoding of the actions that keeps code 1, and makes no action prioritised that was not.
module _ (f : ℕ → ℕ) (inner : f 1 ≡ 1) (odd : (a : ℕ) → f a % 2 ≡ 1 → a % 2 ≡ 1) where
  everywhere : Lts → Lts
  everywhere M = record { n = M.n; w = M.w; moves = λ s. map (recoded f) (M.moves s) }

  half_everywhere : (M N : Lts) (R : ℕ → ℕ → Type 0) → Prioritised M N R → (s t : ℕ) → R s t → Guarded (everywhere M) (everywhere N) R s t
  unfolding everywhere
  half_everywhere M N R b s t r a s' m may =
      let o = Memᴰ.of_map (recoded f) (M.moves s) m in
      let c = o.0.0 in
      let is : f c ≡ a = ap (λ (x : Move). x.0) o.2 in
      let below : May M s c = elim may [
        | inl u ↦ inl (odd c (ap (λ x. x % 2) is ∙ u))
        | inr p ↦ inr (λ z j. p z (subst (λ x. Memᴰ {A = Move} (x, z) (map (recoded f) (M.moves s))) inner (Memᴰ.map (recoded f) j)))
      ] in
      let w = answer M N R b s t r c o.0.1 o.1 below in
      let n : Moves (everywhere N) t (f c) w.0 = Memᴰ.map (recoded f) w.1 in
      (w.0, subst (λ x. Moves (everywhere N) t x w.0) is n, subst (λ x. R x w.0) (ap (λ (x : Move). x.1) o.2) w.2)

renamed_inner : (class from to : ℕ) → renamed class from to 1 ≡ 1
renamed_inner class from to = refl

renamed_odd : (class from to a : ℕ) → renamed class from to a % 2 ≡ 1 → a % 2 ≡ 1
renamed_odd class from to a h = go (visible a && (eqb (a % 2) class && eqb (a / 4) from)) h
  where
    go : (b : Bool) → cond b (4 * to + a % 4) a % 2 ≡ 1 → a % 2 ≡ 1
    go true h = omega arith
    go false h = h

pub rename_congruence : RenameCongruence
unfolding everywhere
rename_congruence class from to = congruent (rename class from to) (half_everywhere (renamed class from to) (renamed_inner class from to) (renamed_odd class from to))

-- Any recoding of the actions of patient states: all their transitions stand, before it and in what answers.
module _ (f : ℕ → ℕ) where
  calmly : Lts → Lts
  calmly M = record { n = M.n; w = M.w; moves = λ s. recoded_moves f (M.moves s) }

  half_calmly : (M N : Lts) (R : ℕ → ℕ → Type 0) → Prioritised M N R → (s t : ℕ) → R s t → Guarded (calmly M) (calmly N) R s t
  unfolding calmly
  half_calmly M N R b s t r a s' m may = elim (T-cases (patient (M.moves s))) [
    | inl calm ↦
        let o = Memᴰ.of_map (recoded f) (M.moves s) (first_cond (patient (M.moves s)) _ (M.moves s) calm m) in
        let c = o.0.0 in
        let p : Patient M s = patient_out (M.moves s) calm in
        let w = answer M N R b s t r c o.0.1 o.1 (inr p) in
        let q = patient_in (N.moves t) (patient_there M N R b s t r p) in
        let n : Moves (calmly N) t (f c) w.0 = cond_first (patient (N.moves t)) _ (N.moves t) q (Memᴰ.map (recoded f) w.1) in
        (w.0, subst (λ x. Moves (calmly N) t x w.0) (ap (λ (x : Move). x.0) o.2) n, subst (λ x. R x w.0) (ap (λ (x : Move). x.1) o.2) w.2)
    | inr busy ↦
        let n = second_cond (patient (M.moves s)) _ (M.moves s) busy m in
        let odd : a % 2 ≡ 1 = elim may [
          | inl o ↦ o
          | inr p ↦ absurd (T_not (patient (M.moves s)) busy (patient_in (M.moves s) (λ x k. p x (cond_second (patient (M.moves s)) _ (M.moves s) busy k))))
        ] in
        let w = answer M N R b s t r a s' n (inl odd) in
        let busy' : T (not (patient (N.moves t))) = elim (T-cases (patient (N.moves t))) [
          | inl q ↦ absurd (T_not (patient (M.moves s)) busy (patient_in (M.moves s) (patient_there N M (λ y x. R x y) (flipped b) t s r (patient_out (N.moves t) q))))
          | inr q ↦ q
        ] in
        (w.0, cond_second (patient (N.moves t)) _ (N.moves t) busy' w.1, w.2)
  ]

pub raise_congruence : RaiseCongruence
unfolding calmly
raise_congruence first second = congruent (raise first second) (half_calmly (raised first second))

pub lower_congruence : LowerCongruence
unfolding calmly
lower_congruence first second = congruent (lower first second) (half_calmly (lowered first second))
