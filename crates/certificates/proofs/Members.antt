-- Members of a list and their places.
use Rattle.std.proofs.Common.{◌≡◌, ℕ, zero, suc, ◌<◌, List, [], ◌∷◌, length, get_or, sym, refl, arith}
use mathlib.Core.List.{Memᴰ}
use Rattle.theory.specs.Systems.{Lts, Moves, Lawful}
use Rattle.theory.proofs.Laws.{move_sound}

module _ {X : Type 0} (d : X) where
  pub mem_at : (xs : List X) (k : ℕ) → k < length xs → Memᴰ (get_or xs k d) xs
  mem_at [] k l = absurd (omega arith)
  mem_at (x ∷ xs) zero l = Memᴰ.head refl
  mem_at (x ∷ xs) (suc k) l = Memᴰ.tail (mem_at xs k (omega arith))

  pub mem_place : {x : X} {xs : List X} → Memᴰ x xs → (k : ℕ) × (k < length xs) × (get_or xs k d ≡ x)
  mem_place (Memᴰ.head e) = (0, omega arith, sym e)
  mem_place (Memᴰ.tail m) = let r = mem_place m in (suc r.0, omega (arith, r.1), r.2)

pub target_below : (M : Lts) → Lawful M → (s a t : ℕ) → Moves M s a t → t < M.n
target_below M l s a t m = (move_sound M l s a t m).1
