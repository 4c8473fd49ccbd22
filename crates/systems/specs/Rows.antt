-- The questions asked of a table, and the number and place of each refusal.
use Rattle.std.specs.Prelude.{ℕ, cond, ◌&&◌, List, map, length, Some, None, Option, nat_le, nat_lt}
use Rattle.theory.specs.Codes.{lawful_code}
use Rattle.theory.specs.Faults.{first_fault}
use Rattle.theory.specs.Tables.{Triple}
use Rattle.systems.specs.declared.rows.Row.{Row}
use Rattle.systems.specs.declared.rows.RowRefusal.{RowRefusal}
use Rattle.systems.specs.declared.rows.RowRefusal.TheVariants.{StateCount, RowCount, NoSuchState, NoSuchAction}

abbrev pub triple : Row → Triple
triple row = (row.from, row.code, row.to)

abbrev pub triples : List Row → List Triple
triples rows = map triple rows

abbrev pub number : RowRefusal → ℕ
number StateCount = 1
number RowCount = 2
number (NoSuchState row) = 3
number (NoSuchAction row) = 4

abbrev pub place : RowRefusal → ℕ
place StateCount = 0
place RowCount = 0
place (NoSuchState row) = row
place (NoSuchAction row) = row

-- what is asked of one row: are both states below n, is the code lawful
abbrev pub row_fault : ℕ → ℕ → Row → Option RowRefusal
row_fault n i row =
    cond (nat_lt row.from n && nat_lt row.to n) (cond (lawful_code row.code) None (Some (NoSuchAction i))) (Some (NoSuchState i))

-- is n from 1 to 1024, are there at most 4096 rows, and then the rows one by one
abbrev pub table_fault : ℕ → List Row → Option RowRefusal
table_fault n rows =
    cond (nat_le 1 n && nat_le n 1024) (cond (nat_le (length rows) 4096) (first_fault (row_fault n) 0 rows) (Some RowCount)) (Some StateCount)
