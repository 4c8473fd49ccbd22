-- How many changes are open.
use Rattle.std.specs.Prelude.{ℕ, List, Some, None, sum_by, Option}
use Rattle.book.specs.declared.socket.Change.{Change}
use Rattle.book.specs.declared.socket.Holding.{Holding}

abbrev pub one_if_open : Option Change → ℕ
one_if_open None = 0
one_if_open (Some c) = 1

abbrev pub open_in : Option Holding → ℕ
open_in None = 0
open_in (Some h) = one_if_open h.change

abbrev pub open_changes : List (Option Holding) → ℕ
open_changes xs = sum_by open_in xs
