-- What the book finds of the change that a slip stands for.
use Rattle.std.specs.Prelude.{◌≡◌, ℕ, ◌-◌, ◌<◌, true, List, Some, None, Option, slice_index_or}
use Rattle.book.specs.declared.socket.Holding.{Holding}
use Rattle.book.specs.declared.book.pending.Pending.{Pending}
use Rattle.book.specs.Plain.{socket_number, change_in, socket_in}

pub record FoundOpen (xs : List (Option Holding)) (i k : ℕ) (p : Pending) : Type 0 where
  pub number : socket_number i ≡ true
  pub is : p.index ≡ i - 1
  pub low : p.index < 16
  pub filled : slice_index_or xs p.index None ≡ Some p.held
  pub change : p.held.change ≡ Some p.change
  pub named : p.change.number ≡ k

abbrev pub Opened : List (Option Holding) → ℕ → ℕ → Option Pending → Type 0
Opened xs i k None = change_in (socket_in xs i) k ≡ None
Opened xs i k (Some p) = FoundOpen xs i k p
