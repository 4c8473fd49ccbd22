-- A set of pairs of states as a bitmap: the pair (x, y) of n1 by n2 states is bit x * n2 + y, and 64 bits are a word.
use Rattle.std.specs.Prelude.{ℕ, ◌+◌, ◌*◌, ◌/◌, ◌%◌, ◌^◌, Bool, ◌&&◌, List, ◌==◌, nat_lt, slice_index}

abbrev pub bit_at : List ℕ → ℕ → Bool
bit_at words i = slice_index words (i / 64) / 2 ^ (i % 64) % 2 == 1

abbrev pub within : ℕ → ℕ → ℕ → ℕ → Bool
within n1 n2 x y = nat_lt x n1 && nat_lt y n2

abbrev pub pair_bit : ℕ → ℕ → List ℕ → ℕ → ℕ → Bool
pair_bit n1 n2 words x y = within n1 n2 x y && bit_at words (x * n2 + y)
