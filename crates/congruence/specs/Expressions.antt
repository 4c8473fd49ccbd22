-- Expressions over numbered sockets, each of which stands for one state of a system.
use Rattle.std.specs.Prelude.{◌≡◌, ℕ, ◌<◌, ◌⊎◌}
use Rattle.theory.specs.Systems.{Lts}
use Rattle.theory.specs.Bisimulations.{Equal}
use Rattle.theory.specs.Designs.{Design, nil_design, prefixed, chosen, paired, restricted, rechannelled, raised_design, lowered_design, EqualDesigns}
use Rattle.theory.specs.Equivalence.{InRange}

pub data Expression : Type 0 where
  nil : Expression
  socket : ℕ → Expression
  prefix : ℕ → Expression → Expression
  sum : Expression → Expression → Expression
  parallel : Expression → Expression → Expression
  restrict : ℕ → ℕ → Expression → Expression
  rename : ℕ → ℕ → ℕ → Expression → Expression
  raise : ℕ → ℕ → Expression → Expression
  lower : ℕ → ℕ → Expression → Expression

-- What an expression says, where the socket i stands for the state `part i` of M: the operators are read without limits.
abbrev pub reading : Lts → (ℕ → ℕ) → Expression → Design
reading M part nil = nil_design
reading M part (socket i) = record { sys = M; start = part i }
reading M part (prefix a e) = prefixed a (reading M part e)
reading M part (sum d e) = chosen (reading M part d) (reading M part e)
reading M part (parallel d e) = paired (reading M part d) (reading M part e)
reading M part (restrict first second e) = restricted first second (reading M part e)
reading M part (rename class from to e) = rechannelled class from to (reading M part e)
reading M part (raise first second e) = raised_design first second (reading M part e)
reading M part (lower first second e) = lowered_design first second (reading M part e)

-- the socket i stands in the expression
abbrev pub Uses : Expression → ℕ → Type 0
Uses nil i = ⊥
Uses (socket j) i = j ≡ i
Uses (prefix a e) i = Uses e i
Uses (sum d e) i = Uses d i ⊎ Uses e i
Uses (parallel d e) i = Uses d i ⊎ Uses e i
Uses (restrict first second e) i = Uses e i
Uses (rename class from to e) i = Uses e i
Uses (raise first second e) i = Uses e i
Uses (lower first second e) i = Uses e i

-- the states x and y of M are states, and equal
pub record Exchangeable (M : Lts) (x y : ℕ) : Type 0 where
  pub old : x < M.n
  pub new : y < M.n
  pub equal : Equal M M x y

-- Where each socket of an expression goes from a state to an equal one, the expression's start stays equal.
abbrev pub Exchange : Type 0
Exchange = (M : Lts) → InRange M → (p q : ℕ → ℕ) (e : Expression) → ((i : ℕ) → Uses e i → Exchangeable M (p i) (q i)) →
    EqualDesigns (reading M p e) (reading M q e)
