-- The refusals of a sheet: the number and the values of each, and which one is given.
use Rattle.std.specs.Prelude.{◌≡◌, ℕ, ◌<◌, ◌≤◌, Bool, cond, ◌&&◌, Some, None, Option, nat_le}
use Rattle.certificates.specs.declared.fault.SheetFault.{SheetFault}
use Rattle.certificates.specs.declared.fault.SheetFault.TheVariants.{RowCount, NoSuchState, NoSuchMove, Unanswered, NotAsked}
use Rattle.certificates.specs.declared.fault.Report.{Report}
use Rattle.certificates.specs.declared.side.Side.{Side}
use Rattle.certificates.specs.declared.side.Side.TheVariants.{Left, Right}
use Rattle.theory.specs.Faults.{or_else}

abbrev pub side_number : Side → ℕ
side_number Left = 0
side_number Right = 1

-- The place is the row, and 0 where a question is not asked by row. A side and a move are named only where one is unanswered.
abbrev pub report : SheetFault → Report
report RowCount = record { number = 14; place = 0; side = 0; k = 0 }
report (NoSuchState row) = record { number = 15; place = row; side = 0; k = 0 }
report (NoSuchMove row) = record { number = 16; place = row; side = 0; k = 0 }
report (Unanswered row side k) = record { number = 17; place = row; side = side; k = k }
report NotAsked = record { number = 18; place = 0; side = 0; k = 0 }

abbrev pub Counted : ℕ → Type 0
Counted m = (1 ≤ m) × (m ≤ 1048576)

-- The first question that a sheet of m rows fails: are there enough rows and not too many, then all questions of row 0, of
-- row 1 and so on, and at the end whether the asked pair is in its place.
pub data Refused (m : ℕ) (Passes : ℕ → Type 0) (Fails : ℕ → SheetFault → Type 0) (Asked : Type 0) (f : SheetFault) : Type 0 where
  by_count : f ≡ RowCount → (Counted m → ⊥) → Refused m Passes Fails Asked f
  by_row : (i : ℕ) → Counted m → i < m → ((j : ℕ) → j < i → Passes j) → Fails i f → Refused m Passes Fails Asked f
  by_asked : f ≡ NotAsked → Counted m → ((i : ℕ) → i < m → Passes i) → (Asked → ⊥) → Refused m Passes Fails Asked f

-- the same as a computed answer, where rows has the first fault of the rows
abbrev pub counted : ℕ → Bool
counted m = nat_le 1 m && nat_le m 1048576

abbrev pub sheet_fault : ℕ → Option SheetFault → Bool → Option SheetFault
sheet_fault m rows asked = cond (counted m) (or_else rows (cond asked None (Some NotAsked))) (Some RowCount)
