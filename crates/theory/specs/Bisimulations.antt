-- Bisimulation, and equality of states: some prioritised bisimulation holds both.
use Rattle.std.specs.Prelude.{ℕ, Bool, T}
use Rattle.theory.specs.Systems.{Lts, Moves}
use Rattle.theory.specs.Layers.{Layering, shown, standing_layer}

-- Each transition of s is answered by one of t, with the same action, to a target that R pairs with its own.
abbrev pub Answers : (M N : Lts) → (ℕ → ℕ → Type 0) → ℕ → ℕ → Type 0
Answers M N R s t = (a s' : ℕ) → Moves M s a s' → (t' : ℕ) × Moves N t a t' × R s' t'

pub record Bisimulation (M N : Lts) (R : ℕ → ℕ → Type 0) : Type 0 where
  pub there : (s t : ℕ) → R s t → Answers M N R s t
  pub back : (s t : ℕ) → R s t → Answers N M (λ y x. R x y) t s

-- A relation is a test here, since a contract speaks of small types only; `AnyRelation` says that nothing is lost by it.
abbrev pub Bisimilar : (M N : Lts) → ℕ → ℕ → Type 0
Bisimilar M N s t = (R : ℕ → ℕ → Bool) × Bisimulation M N (λ x y. T (R x y)) × T (R s t)

-- The same of the transitions that count under a layer.
abbrev pub EqualUnder : Layering → (M N : Lts) → ℕ → ℕ → Type 0
EqualUnder y M N s t = Bisimilar (shown y M) (shown y N) s t

-- A prioritised bisimulation is a bisimulation of what stands, and states are equal if one holds both.
abbrev pub Equal : (M N : Lts) → ℕ → ℕ → Type 0
Equal M N s t = EqualUnder standing_layer M N s t
