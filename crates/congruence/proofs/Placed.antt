-- The transitions that an operator takes over from a part, with the targets moved.
use Rattle.std.proofs.Common.{◌≡◌, ℕ, ◌+◌, ◌*◌, List, map, ap, subst}
use mathlib.Core.List.Memᴰ
use mathlib.Core.List.{Memᴰ}
use Rattle.theory.specs.Systems.{Move}
use Rattle.theory.specs.Operators.{placed}

abbrev pub Has : List Move → ℕ → ℕ → Type 0
Has ms a t = Memᴰ {A = Move} (a, t) ms

pub placed_in : (k by : ℕ) {ms : List Move} (a t x : ℕ) → Has ms a t → t * k + by ≡ x → Has (map (placed k by) ms) a x
placed_in k by {ms} a t x m e = subst (λ z. Has (map (placed k by) ms) a z) e (Memᴰ.map (placed k by) m)

pub placed_out : (k by : ℕ) (ms : List Move) (a x : ℕ) → Has (map (placed k by) ms) a x → (t : ℕ) × Has ms a t × (t * k + by ≡ x)
placed_out k by ms a x m =
    let o = Memᴰ.of_map (placed k by) ms m in
    (o.0.1, subst (λ c. Has ms c o.0.1) (ap (λ (z : Move). z.0) o.2) o.1, ap (λ (z : Move). z.1) o.2)

-- the same list under another name
pub has_along : {ms ks : List Move} (a t : ℕ) → ms ≡ ks → Has ms a t → Has ks a t
has_along a t e m = subst (λ l. Has l a t) e m
