-- What the book promises of its sockets: whatever calls were made, every design made of filled sockets is equal to what it first
-- was, whichever of them were exchanged since.
use Rattle.std.specs.Prelude.{◌≡◌, ℕ, ◌+◌, ◌≤◌, true, List, is_some}
use Rattle.theory.specs.Systems.{Lts, Lawful}
use Rattle.theory.specs.Designs.{EqualDesigns}
use Rattle.congruence.specs.Expressions.{Expression, Uses, reading}
use Rattle.book.specs.Counts.{open_changes}
use Rattle.book.specs.Plain.{Plain, blank, at, first_in, current_in, Call, Run}

-- every socket that stands in the expression is filled
abbrev pub FilledIn : Plain → Expression → Type 0
FilledIn b e = (i : ℕ) → Uses e i → is_some (at b i) ≡ true

abbrev pub first_part : Plain → ℕ → ℕ
first_part b i = first_in (at b i)

abbrev pub current_part : Plain → ℕ → ℕ
current_part b i = current_in (at b i)

abbrev pub KeepsDesigns : Lts → Plain → Type 0
KeepsDesigns M b = (e : Expression) → FilledIn b e → EqualDesigns (reading M (current_part b) e) (reading M (first_part b) e)

abbrev pub RunsKeepDesigns : Type 0
RunsKeepDesigns = (M : Lts) → Lawful M → (calls : List Call) (b : Plain) → Run M blank calls b → KeepsDesigns M b

-- Every change that was proposed is taken, dropped or still open, and there were at most 65535.
pub record ChangesCounted (b : Plain) : Type 0 where
  pub all : b.taken + b.dropped + open_changes b.sockets ≡ b.proposed
  pub most : b.proposed ≤ 65535
