-- How many cells are zero.
use Rattle.std.specs.Prelude.{ℕ, zero, suc, ◌+◌, Bool, cond, List, ◌==◌, slice_index}

-- how many numbers below n pass a test
abbrev pub passing : (ℕ → Bool) → ℕ → ℕ
passing p zero = 0
passing p (suc n) = passing p n + cond (p n) 1 0

abbrev pub is_zero : List ℕ → ℕ → Bool
is_zero cells i = slice_index cells i == 0
