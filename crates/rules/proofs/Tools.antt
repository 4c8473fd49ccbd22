-- Transitions of systems of any size that keep the other laws, and members of lists that are made of others.
use Rattle.std.proofs.Common.{◌≡◌, ℕ, ◌<◌, ◌⊎◌, List, [], ◌∷◌, refl, subst, inl, inr}
use mathlib.Core.List.Memᴰ
use mathlib.Core.List.{Memᴰ}
use Rattle.std.proofs.lemmas.Bool.{cases_lt}
use Rattle.std.specs.List.{flat_map}
use Rattle.theory.specs.Systems.{Move, Lts, Moves, Sound}
use Rattle.theory.proofs.Members.{all_member}
use Rattle.theory.proofs.OperatorLaws.{Fits}

-- a state that has a transition is one of the n states
pub from_state : (M : Lts) → Fits M → (s a t : ℕ) → Moves M s a t → s < M.n
from_state M h s a t m = elim (cases_lt s M.n) [
  | inl l ↦ l
  | inr g ↦ absurd (Memᴰ.not-nil (subst (λ ms. Memᴰ {A = Move} (a, t) ms) (h.none s g) m))
]

pub sound_move : (M : Lts) → Fits M → (s a t : ℕ) → Moves M s a t → Sound M.n (a, t)
sound_move M h s a t m = all_member (Sound M.n) (h.sound s) m

-- a relation of state, action and target at equal places
pub at : (R : ℕ → ℕ → ℕ → Type 0) {s s' a a' t t' : ℕ} → s ≡ s' → a ≡ a' → t ≡ t' → R s a t → R s' a' t'
at R {s} {s'} {a} {a'} {t} {t'} e f g h = subst (λ x. R x a' t') e (subst (λ x. R s x t') f (subst (R s a) g h))

pub member_at : {x y : Move} {ms ks : List Move} → x ≡ y → ms ≡ ks → Memᴰ x ms → Memᴰ y ks
member_at {x} {y} {ms} {ks} e f m = subst (λ z. Memᴰ z ks) e (subst (Memᴰ x) f m)

pub joined_in : {X Y : Type 0} (f : X → List Y) {x : X} {y : Y} {xs : List X} → Memᴰ x xs → Memᴰ y (f x) → Memᴰ y (flat_map f xs)
joined_in f {x} {y} (Memᴰ.head {x = z} {xs = zs} e) k = Memᴰ.append_left (flat_map f zs) (subst (λ w. Memᴰ y (f w)) e k)
joined_in f (Memᴰ.tail {x = z} {xs = zs} m) k = Memᴰ.append_right (f z) (joined_in f m k)

pub joined_out : {X Y : Type 0} (f : X → List Y) {y : Y} (xs : List X) → Memᴰ y (flat_map f xs) → (x : X) × Memᴰ x xs × Memᴰ y (f x)
joined_out f [] m = absurd (Memᴰ.not-nil m)
joined_out {X} f {y} (z ∷ zs) m = go (joined_out f zs) (Memᴰ.append_cases (f z) m)
  where
    go : (Memᴰ y (flat_map f zs) → (x : X) × Memᴰ x zs × Memᴰ y (f x)) → Memᴰ y (f z) ⊎ Memᴰ y (flat_map f zs) → (x : X) × Memᴰ x (z ∷ zs) × Memᴰ y (f x)
    go below (inl k) = (z, Memᴰ.head refl, k)
    go below (inr k) = let r = below k in (r.0, Memᴰ.tail r.1, r.2)
