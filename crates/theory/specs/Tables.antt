-- A table: rows (from, code, to) and a declared number of states.
use Rattle.std.specs.Prelude.{ℕ, zero, suc, max, Bool, cond, ◌&&◌, List, map, length, filter, ◌==◌, nat_le, nat_lt}
use Rattle.theory.specs.Codes.{lawful_code}
use Rattle.theory.specs.Systems.{Move, Lts, outsize}

abbrev pub Triple : Type 0
Triple = ℕ × ℕ × ℕ

-- A row is a transition if both its states are below n and its code is lawful.
abbrev pub is_transition : ℕ → Triple → Bool
is_transition n row = nat_lt row.0 n && (nat_lt row.2 n && lawful_code row.1)

abbrev pub is_from : ℕ → ℕ → Triple → Bool
is_from n s row = is_transition n row && row.0 == s

abbrev pub transition : Triple → Move
transition row = (row.1, row.2)

-- the transitions of s are the rows from s, in order
abbrev pub table_moves : ℕ → List Triple → ℕ → List Move
table_moves n rows s = map transition (filter (is_from n s) rows)

-- the length of the longest of the first n lists
abbrev pub widest : (ℕ → List Move) → ℕ → ℕ
widest f zero = 0
widest f (suc n) = max (widest f n) (length (f n))

abbrev pub table_fits : ℕ → List Triple → Bool
table_fits n rows = nat_le 1 n && (nat_le n 1024 && nat_le (length rows) 4096)

abbrev pub table : ℕ → List Triple → Lts
table n rows = cond (table_fits n rows) (record { n = n; w = widest (table_moves n rows) n; moves = table_moves n rows }) outsize
