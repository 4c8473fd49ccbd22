-- What stands, as a filter and by the two clauses.
use Rattle.std.proofs.Common.{ℕ, ◌%◌, not, T, eqb, List, [], ◌∷◌, refl, subst, inl, inr, eqb→eq, T_not}
use mathlib.Core.List.{Memᴰ}
use lib.Dec.{not_T}
use Rattle.theory.specs.Codes.{prioritised}
use Rattle.theory.specs.Systems.{Move, Lts, Moves}
use Rattle.theory.specs.Layers.{keeps_move, patient, standing_layer, standing, Stands}
use Rattle.theory.specs.Standing.{StandingClauses}
use Rattle.theory.proofs.Truth.{eq_T, and_pair, pair_and, or_sum, or_inl, or_inr}
use Rattle.theory.proofs.Members.{kept_in, kept_out}

pub patient_out : (ms : List Move) → T (patient ms) → (t : ℕ) → Memᴰ {A = Move} (1, t) ms → ⊥
patient_out [] h t k = elim k [ ]
patient_out (m ∷ ms) h t (Memᴰ.head e) = T_not (eqb m.0 1) (and_pair (not (eqb m.0 1)) (patient ms) h).0 (subst (λ (x : Move). T (eqb x.0 1)) e tt)
patient_out (m ∷ ms) h t (Memᴰ.tail k) = patient_out ms (and_pair (not (eqb m.0 1)) (patient ms) h).1 t k

pub patient_in : (ms : List Move) → ((t : ℕ) → Memᴰ {A = Move} (1, t) ms → ⊥) → T (patient ms)
patient_in [] f = tt
patient_in (m ∷ ms) f = pair_and (not (eqb m.0 1)) (patient ms)
    (not_T (eqb m.0 1) (λ e. f m.1 (subst (λ c. Memᴰ {A = Move} (c, m.1) (m ∷ ms)) (eqb→eq m.0 1 e) (Memᴰ.head refl))))
    (patient_in ms (λ t k. f t (Memᴰ.tail k)))

module _ (M : Lts) (s a t : ℕ) where
  pub stands_out : Moves (standing M) s a t → Stands M s a t
  stands_out m =
      let k = kept_out (keeps_move standing_layer (patient (M.moves s))) (M.moves s) m in
      (k.0, elim (or_sum (patient (M.moves s)) (prioritised a) k.1) [ inl p ↦ inr (patient_out (M.moves s) p) | inr o ↦ inl (eqb→eq (a % 2) 1 o) ])

  pub stands_in : Stands M s a t → Moves (standing M) s a t
  stands_in h = kept_in (keeps_move standing_layer (patient (M.moves s))) h.0 (elim h.1 [
    | inl o ↦ or_inr (patient (M.moves s)) (prioritised a) (eq_T o)
    | inr p ↦ or_inl (patient (M.moves s)) (prioritised a) (patient_in (M.moves s) p)
  ])

pub standing_clauses : StandingClauses
standing_clauses M s a t = (stands_out M s a t, stands_in M s a t)
