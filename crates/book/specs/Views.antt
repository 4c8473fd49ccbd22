-- How the book, and the answers of its calls, are read as the plain book and its words.
use Rattle.std.specs.Prelude.{◌≡◌, ℕ, Bool, true, false, List, Some, None, Ok, Err, Option, Result}
use Rattle.theory.specs.Systems.{Lts}
use Rattle.theory.specs.Layers.{standing}
use Rattle.certificates.specs.declared.rows.EqualRow.{EqualRow}
use Rattle.certificates.specs.declared.fault.SheetFault.{SheetFault}
use Rattle.certificates.specs.EqualSheets.{AcceptedEqual, RefusedEqual}
use Rattle.book.specs.declared.book.Book.{Book}
use Rattle.book.specs.declared.book.Slip.{Slip}
use Rattle.book.specs.declared.book.Closed.{Closed}
use Rattle.book.specs.declared.book.Closed.TheVariants as closed
use Rattle.book.specs.declared.socket.Change.{Change}
use Rattle.book.specs.declared.fault.BookFault.{BookFault}
use Rattle.book.specs.declared.fault.BookFault.TheVariants.{NoChange, Sheet}
use Rattle.book.specs.Plain.{Plain, change_in, current_in, at}

abbrev pub view : Book → Plain
view b = record { sockets = b.sockets; proposed = b.proposed; taken = b.taken; dropped = b.dropped }

-- A proposal that is not refused gives a slip with its socket and the number of the change.
abbrev pub Slipped : Option BookFault → ℕ → ℕ → Result Slip BookFault → Type 0
Slipped None i k (Ok slip) = (slip.socket ≡ i) × (slip.number ≡ k)
Slipped None i k (Err f) = ⊥
Slipped (Some g) i k (Ok slip) = ⊥
Slipped (Some g) i k (Err f) = f ≡ g

-- Of a change that is open, proving answers what the check of the sheet does, whose refusal it hands on whole.
abbrev pub SheetAnswer : Lts → List EqualRow → ℕ → ℕ → Result (Unit {0}) BookFault → Type 0
SheetAnswer M rows s t (Ok u) = AcceptedEqual (standing M) (standing M) rows s t
SheetAnswer M rows s t (Err f) = (g : SheetFault) × (f ≡ Sheet g) × RefusedEqual (standing M) (standing M) rows s t g

abbrev pub ChangeAnswer : Lts → ℕ → ℕ → List EqualRow → Result (Unit {0}) BookFault → Option Change → Type 0
ChangeAnswer M i current rows r None = r ≡ Err (NoChange i)
ChangeAnswer M i current rows r (Some c) = SheetAnswer M rows current c.state r

abbrev pub ProofAnswer : Lts → Plain → ℕ → ℕ → List EqualRow → Result (Unit {0}) BookFault → Type 0
ProofAnswer M b i k rows r = ChangeAnswer M i (current_in (at b i)) rows r (change_in (at b i) k)

-- what closing answers of a change, if it is open
abbrev pub outcome_by : Bool → Closed
outcome_by true = closed.Taken
outcome_by false = closed.Dropped

abbrev pub outcome : Option Change → Closed
outcome None = closed.Nothing
outcome (Some c) = outcome_by c.proved
