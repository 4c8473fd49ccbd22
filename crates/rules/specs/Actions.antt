-- What the rules say of actions, by channel, polarity and class.
use Rattle.std.specs.Prelude.{◌≡◌, ℕ, ◌+◌, ◌*◌, ◌/◌, ◌%◌, ◌^◌, ◌≤◌, ◌≢◌}

abbrev pub Channel : ℕ → Type 0
Channel c = (1 ≤ c) × (c ≤ 60)

-- The visible action on channel c, of polarity p (0 for a name, 1 for its co-name) and class u (0 unprioritised, 1 prioritised).
-- The inner action of class u has the code u.
abbrev pub code : ℕ → ℕ → ℕ → ℕ
code c p u = 4 * c + 2 * p + u

-- A name and its co-name, of the same class, either way round.
pub data Complementary (u : ℕ) : ℕ → ℕ → Type 0 where
  name_left : {c : ℕ} → Channel c → Complementary u (code c 0 u) (code c 1 u)
  name_right : {c : ℕ} → Channel c → Complementary u (code c 1 u) (code c 0 u)

-- bit c of a word is set: the word holds channel c
abbrev pub Holds : ℕ → ℕ → Type 0
Holds word c = word / 2 ^ c % 2 ≡ 1

-- What a restriction lets through: inner actions, and visible ones whose channel is not in the word of their class. Polarity
-- does not matter: a name and its co-name are let through alike.
pub data Passes (first second : ℕ) : ℕ → Type 0 where
  inner_passes : {u : ℕ} → u ≤ 1 → Passes first second u
  unprioritised_passes : {c p : ℕ} → Channel c → p ≤ 1 → (Holds first c → ⊥) → Passes first second (code c p 0)
  prioritised_passes : {c p : ℕ} → Channel c → p ≤ 1 → (Holds second c → ⊥) → Passes first second (code c p 1)

-- A renaming as a relation of an action and its image: the actions of one class on one channel move, all others stay.
pub data Renames (class from to : ℕ) : ℕ → ℕ → Type 0 where
  inner_stays : {u : ℕ} → u ≤ 1 → Renames class from to u u
  renamed : {p : ℕ} → p ≤ 1 → Renames class from to (code from p class) (code to p class)
  channel_stays : {c p u : ℕ} → Channel c → p ≤ 1 → u ≤ 1 → (c ≢ from) → Renames class from to (code c p u) (code c p u)
  class_stays : {c p u : ℕ} → Channel c → p ≤ 1 → u ≤ 1 → (u ≢ class) → Renames class from to (code c p u) (code c p u)

-- What a raising or a lowering names, by channel and polarity: names by the first word, co-names by the second.
pub data Names (first second : ℕ) : ℕ → ℕ → Type 0 where
  by_first : {c : ℕ} → Channel c → Holds first c → Names first second c 0
  by_second : {c : ℕ} → Channel c → Holds second c → Names first second c 1

-- the action a is named and of class u
abbrev pub Named : ℕ → ℕ → ℕ → ℕ → Type 0
Named first second u a = (c p : ℕ) × Names first second c p × (a ≡ code c p u)
