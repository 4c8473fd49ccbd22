-- A prioritised bisimulation from answers that are bare transitions: that they stand follows, since code 1 always stands and so
-- patience is the same on both sides.
use Rattle.std.proofs.Common.{◌≡◌, ℕ, ◌%◌, ◌⊎◌, refl, inl, inr}
use Rattle.theory.specs.Systems.{Lts, Moves}
use Rattle.theory.specs.Layers.{standing, Patient}
use Rattle.theory.specs.Bisimulations.{Bisimulation}
use Rattle.theory.proofs.Standing.{stands_in, stands_out}

-- the transitions by a of the state s stand
abbrev pub May : Lts → ℕ → ℕ → Type 0
May M s a = (a % 2 ≡ 1) ⊎ Patient M s

abbrev pub Guarded : (M N : Lts) → (ℕ → ℕ → Type 0) → ℕ → ℕ → Type 0
Guarded M N R s t = (a s' : ℕ) → Moves M s a s' → May M s a → (t' : ℕ) × Moves N t a t' × R s' t'

abbrev pub Prioritised : (M N : Lts) → (ℕ → ℕ → Type 0) → Type 0
Prioritised M N R = Bisimulation (standing M) (standing N) R

may_along : (M N : Lts) (R : ℕ → ℕ → Type 0) (s t a : ℕ) → Guarded N M R t s → May M s a → May N t a
may_along M N R s t a back (inl o) = inl o
may_along M N R s t a back (inr p) = inr (λ t' m. let w = back 1 t' m (inl refl) in p w.0 w.1)

pub guarded : (M N : Lts) (R : ℕ → ℕ → Type 0) → ((s t : ℕ) → R s t → Guarded M N R s t) → ((s t : ℕ) → R s t → Guarded N M (λ y x. R x y) t s) → Prioritised M N R
guarded M N R f g = record {
  there = λ s t r a s' m.
      let k = stands_out M s a s' m in
      let w = f s t r a s' k.0 k.1 in
      (w.0, stands_in N t a w.0 (w.1, may_along M N (λ y x. R x y) s t a (g s t r) k.1), w.2);
  back = λ s t r a t' m.
      let k = stands_out N t a t' m in
      let w = g s t r a t' k.0 k.1 in
      (w.0, stands_in M s a w.0 (w.1, may_along N M R t s a (f s t r) k.1), w.2);
}

-- what a prioritised bisimulation answers, as bare transitions
pub answer : (M N : Lts) (R : ℕ → ℕ → Type 0) → Prioritised M N R → (s t : ℕ) → R s t → Guarded M N R s t
answer M N R b s t r a s' m may =
    let w = b.there s t r a s' (stands_in M s a s' (m, may)) in
    (w.0, (stands_out N t a w.0 w.1).0, w.2)

pub patient_there : (M N : Lts) (R : ℕ → ℕ → Type 0) → Prioritised M N R → (s t : ℕ) → R s t → Patient M s → Patient N t
patient_there M N R b s t r p t' m =
    let w = b.back s t r 1 t' (stands_in N t 1 t' (m, inl refl)) in
    p w.0 (stands_out M s 1 w.0 w.1).0
