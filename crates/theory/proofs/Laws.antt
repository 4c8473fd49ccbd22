-- A layer keeps the laws of a system, and the targets of a lawful system are its states.
use Rattle.std.proofs.Common.{◌≡◌, ℕ, ◌<◌, List, length, get_or, filter, sym, ap, subst, inl, inr, arith}
use mathlib.Core.List.Memᴰ
use mathlib.Core.List.{Memᴰ}
use Rattle.std.specs.List.{AllByRecursion}
use Rattle.std.proofs.lemmas.Bool.{cases_lt}
use Rattle.std.proofs.ByRecursion.{all_kept_by, All-get_or}
use Rattle.theory.specs.Systems.{Move, Lts, Moves, Lawful, Sound}
use Rattle.theory.specs.Layers.{Layering, keeps_move, shown}
use Rattle.theory.proofs.Scans.{kept_short}

pub shown_lawful : (y : Layering) (M : Lts) → Lawful M → Lawful (shown y M)
shown_lawful y M h = record {
  few = h.few;
  narrow = h.narrow;
  short = λ s. omega (arith, kept_short (keeps_move y (y.calm (M.moves s))) (M.moves s), h.short s);
  sound = λ s. all_kept_by (keeps_move y (y.calm (M.moves s))) (Sound M.n) (M.moves s) (h.sound s);
  none = λ s l. ap (λ ms. filter (keeps_move y (y.calm ms)) ms) (h.none s l);
  empty = h.empty;
}

pub target_below : (M : Lts) → Lawful M → (s k : ℕ) (m : Move) → k < length (M.moves s) → get_or (M.moves s) k (0, 0) ≡ m → m.1 < M.n
target_below M h s k m l e = subst (λ (v : Move). v.1 < M.n) e (All-get_or (Sound M.n) (M.moves s) k (0, 0) l (h.sound s)).1

pub all_member : {X : Type 0} (P : X → Type 0) {x : X} {xs : List X} → Memᴰ x xs → AllByRecursion P xs → P x
all_member P (Memᴰ.head e) h = subst P (sym e) h.0
all_member P (Memᴰ.tail m) h = all_member P m h.1

pub move_sound : (M : Lts) → Lawful M → (s a t : ℕ) → Moves M s a t → Sound M.n (a, t)
move_sound M h s a t m = all_member (Sound M.n) m (h.sound s)

-- Only states have transitions.
pub source_below : (M : Lts) → Lawful M → (s a t : ℕ) → Moves M s a t → s < M.n
source_below M h s a t m = elim (cases_lt s M.n) [
  | inl l ↦ l
  | inr l ↦ absurd (Memᴰ.not-nil (subst (λ ms. Memᴰ {A = Move} (a, t) ms) (h.none s l) m))
]
