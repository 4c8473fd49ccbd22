-- Nodes in chunks of bytes.
use Rattle.std.proofs.Common.{◌≡◌, ℕ, zero, suc, ◌+◌, ◌-◌, ◌*◌, ◌/◌, ◌<◌, ◌≤◌, List, [], ◌∷◌, map, length, get_or, take, drop, refl, ap, ◌∙◌, arith, add-zero, add_assoc}
use Rattle.std.proofs.lemmas.List.{length-take-le, length-map, take-take, drop-take, drop-drop, get_or-map}
use Rattle.std.proofs.lemmas.List.FromFn.{fill_by_all, length-map-range_with_len, get_or-map-range_with_len}
use Rattle.std.specs.Simd.{first_chunks}
use Rattle.std.specs.Int.{w16, from_be_bytes}
use Rattle.std.specs.Int.Digits.{number_from_digits}
use Rattle.designs.specs.declared.node.Node.{Node}
use Rattle.files.specs.Layouts.{field, node_at, nodes_at}

-- what is read within the first m bytes
cut : (bytes : List ℕ) (m j s : ℕ) → j + s ≤ m → take s (drop j (take m bytes)) ≡ take s (drop j bytes)
cut bytes m j s h =
    let e : m ≡ j + (m - j) = omega arith in
    ap (λ n. take s (drop j (take n bytes))) e ∙ ap (take s) (drop-take j (m - j) bytes) ∙ take-take s (m - j) (drop j bytes) (omega arith)

-- and after the first a
shifted : (bytes : List ℕ) (a j s : ℕ) → take s (drop j (drop a bytes)) ≡ take s (drop (a + j) bytes)
shifted bytes a j s = ap (take s) (drop-drop j a bytes)

pub field_after : (bytes : List ℕ) (a j s : ℕ) → field (drop a bytes) j s ≡ field bytes (a + j) s
field_after bytes a j s = rw (shifted bytes a j s)

field_in : (bytes : List ℕ) (a j s : ℕ) → j + s ≤ 23 → field (take 23 (drop a bytes)) j s ≡ field bytes (a + j) s
field_in bytes a j s h = rw (cut (drop a bytes) 23 j s h, shifted bytes a j s)

node_after : (bytes : List ℕ) (a j : ℕ) → node_at (drop a bytes) j ≡ node_at bytes (a + j)
node_after bytes a j = simp (field_after, add_assoc)

node_in : (bytes : List ℕ) (a : ℕ) → node_at (take 23 (drop a bytes)) 0 ≡ node_at bytes a
node_in bytes a =
    let kind : field (take 23 (drop a bytes)) 0 1 ≡ field bytes a 1 = field_in bytes a 0 1 (omega arith) ∙ rw (add-zero a) in
    let code = field_in bytes a 1 2 (omega arith) in
    let left = field_in bytes a 3 2 (omega arith) in
    let right = field_in bytes a 5 2 (omega arith) in
    let first = field_in bytes a 7 8 (omega arith) in
    let second = field_in bytes a 15 8 (omega arith) in
    cc

pub nodes_after : (bytes : List ℕ) (a b n : ℕ) → nodes_at (drop a bytes) b n ≡ nodes_at bytes (a + b) n
nodes_after bytes a b n =
    let node : ℕ → Node = λ k. node_at (drop a bytes) (b + 23 * k) in
    fill_by_all (λ k. node_at bytes (a + b + 23 * k)) (nodes_at (drop a bytes) b n) n (node_at bytes 0) (length-map-range_with_len node 0 n)
    (λ k h. get_or-map-range_with_len node 0 n k k (node_at bytes 0) h (omega arith) ∙ node_after bytes a (b + 23 * k) ∙ simp add_assoc)

pub word : (bytes : List ℕ) → length bytes ≡ 2 → from_be_bytes w16 bytes ≡ number_from_digits 256 bytes
word [] h = let z : ⊥ = omega arith in elim z [ ]
word (a ∷ []) h = let z : ⊥ = omega arith in elim z [ ]
word (a ∷ (b ∷ [])) h = omega arith
word (a ∷ (b ∷ (c ∷ bytes))) h = let z : ⊥ = omega arith in elim z [ ]

length_chunks : (n k : ℕ) (bytes : List ℕ) → length (first_chunks n k bytes) ≡ k
length_chunks n zero bytes = refl
length_chunks n (suc k) bytes = ap suc (length_chunks n k (drop n bytes))

chunk_at : (k : ℕ) (bytes : List ℕ) (j : ℕ) (d : List ℕ) → j < k → get_or (first_chunks 23 k bytes) j d ≡ take 23 (drop (23 * j) bytes)
chunk_at zero bytes j d h = let z : ⊥ = omega arith in elim z [ ]
chunk_at (suc k) bytes zero d h = refl
chunk_at (suc k) bytes (suc j) d h =
    let e : 23 + 23 * j ≡ 23 * suc j = omega arith in
    chunk_at k (drop 23 bytes) j d (omega arith) ∙ shifted bytes 23 (23 * j) 23 ∙ ap (λ n. take 23 (drop n bytes)) e

-- so many nodes from a on
chunk_nodes : (bytes : List ℕ) (a n : ℕ) → map (λ x. node_at x 0) (first_chunks 23 n (take (23 * n) (drop a bytes))) ≡ nodes_at bytes a n
chunk_nodes bytes a n =
    let chunks = first_chunks 23 n (take (23 * n) (drop a bytes)) in
    let node : List ℕ → Node = λ x. node_at x 0 in
    fill_by_all (λ k. node_at bytes (a + 23 * k)) (map node chunks) n (node bytes) (length-map chunks node ∙ length_chunks 23 n _)
    (λ k h.
    get_or-map node chunks k bytes (node bytes) (omega (arith, length_chunks 23 n (take (23 * n) (drop a bytes))))
    ∙ ap node (chunk_at n _ k bytes h ∙ cut (drop a bytes) (23 * n) (23 * k) 23 (omega arith) ∙ shifted bytes a (23 * k) 23)
    ∙ node_in bytes (a + 23 * k))

-- what is cut off by the size of the nodes that are counted
pub counted_nodes : (bytes rest nodes after : List ℕ) (size : ℕ) → rest ≡ drop 2 bytes → size ≤ length rest → nodes ≡ take size rest → after ≡ drop size rest → size ≡ 23 * field bytes 0 2 → (map (λ x. node_at x 0) (first_chunks 23 (length nodes / 23) nodes) ≡ nodes_at bytes 2 (field bytes 0 2)) × (after ≡ drop (2 + 23 * field bytes 0 2) bytes)
counted_nodes bytes rest nodes after size hr h hc ha hs =
    let many : length nodes / 23 ≡ field bytes 0 2 = omega (arith, ap length hc, length-take-le size rest h, hs) in (
      rw (many, hc, hs, hr) (chunk_nodes bytes 2 (field bytes 0 2)),
      ha ∙ rw (hr, hs) (drop-drop (23 * field bytes 0 2) 2 bytes),
    )
