-- The layout of a file of two designs: the mark PCD, a version in two bytes, and then for each design a count in two bytes
-- and so many nodes of 23 bytes. Numbers have the high byte first.
use Rattle.std.specs.Prelude.{ℕ, ◌+◌, ◌*◌, Bool, ◌&&◌, List, map, length, take, drop, ◌==◌, nat_le, slice_index}
use Rattle.std.specs.List.{range_with_len}
use Rattle.std.specs.Int.Digits.{number_from_digits}
use Rattle.designs.specs.declared.node.Node.{Node}

-- the number in so many bytes at a place
abbrev pub field : List ℕ → ℕ → ℕ → ℕ
field bytes at size = number_from_digits 256 (take size (drop at bytes))

abbrev pub node_at : List ℕ → ℕ → Node
node_at bytes at = record {
  kind = field bytes at 1;
  code = field bytes (at + 1) 2;
  left = field bytes (at + 3) 2;
  right = field bytes (at + 5) 2;
  first = field bytes (at + 7) 8;
  second = field bytes (at + 15) 8;
}

abbrev pub nodes_at : List ℕ → ℕ → ℕ → List Node
nodes_at bytes at count = map (λ k. node_at bytes (at + 23 * k)) (range_with_len 0 count)

abbrev pub marked : List ℕ → Bool
marked bytes = nat_le 3 (length bytes) && (slice_index bytes 0 == 80 && (slice_index bytes 1 == 67 && slice_index bytes 2 == 68))

abbrev pub version_one : List ℕ → Bool
version_one bytes = nat_le 5 (length bytes) && field bytes 3 2 == 1

abbrev pub first_count : List ℕ → ℕ
first_count bytes = field bytes 5 2

-- where the second design's count stands
abbrev pub second_place : List ℕ → ℕ
second_place bytes = 7 + 23 * first_count bytes

abbrev pub second_count : List ℕ → ℕ
second_count bytes = field bytes (second_place bytes) 2

-- two designs of 256 nodes make the longest file
abbrev pub exact_length : List ℕ → Bool
exact_length bytes = nat_le (length bytes) 11785 && length bytes == 9 + 23 * (first_count bytes + second_count bytes)

abbrev pub first_nodes : List ℕ → List Node
first_nodes bytes = nodes_at bytes 7 (first_count bytes)

abbrev pub second_nodes : List ℕ → List Node
second_nodes bytes = nodes_at bytes (second_place bytes + 2) (second_count bytes)
