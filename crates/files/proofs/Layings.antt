-- A file that is cut into its parts.
use Rattle.std.proofs.Common.{◌≡◌, ℕ, ◌+◌, ◌*◌, ◌≤◌, true, false, eqb, List, [], ◌∷◌, length, take, drop, Some, None, sym, ap, ◌∙◌, arith}
use Rattle.std.proofs.lemmas.List.{length-drop, drop-drop}
use Rattle.std.proofs.lemmas.Bool.{and_from, le-leb, eq-eqb, ne_eqb}
use Rattle.std.proofs.lemmas.Bool.Decides.{nat_tests}
use Rattle.std.specs.Cmp.Lexicographic.{pointwise, same_text}
use Rattle.files.specs.Layouts.{field, nodes_at, marked, version_one, first_count, second_count, second_place, exact_length}
use Rattle.files.specs.Refusals.{file_fault}
use Rattle.files.specs.declared.refusal.FileRefusal.TheVariants.{Length}
use Rattle.files.proofs.Bytes.{field_after, nodes_after}

mark : (bytes : List ℕ) → take 3 bytes ≡ 80 ∷ (67 ∷ (68 ∷ [])) → marked bytes ≡ true
mark [] e = cc
mark (a ∷ []) e = cc
mark (a ∷ (b ∷ [])) e = cc
mark (a ∷ (b ∷ (c ∷ bytes))) e =
    let x : a ≡ 80 = cc in
    let y : b ≡ 67 = cc in
    let z : c ≡ 68 = cc in
    and_from _ _ (le-leb 3 (length (a ∷ (b ∷ (c ∷ bytes)))) (omega arith)) (and_from (eqb a 80) _ (eq-eqb a 80 x) (and_from (eqb b 67) (eqb c 68) (eq-eqb b 67 y) (eq-eqb c 68 z)))

-- what is left after the mark, the version, the first design and the second
pub record Cut (bytes u v x y : List ℕ) : Type 0 where
  pub mark : pointwise eqb (take 3 bytes) (80 ∷ (67 ∷ (68 ∷ []))) ≡ true
  pub unmarked : u ≡ drop 3 bytes
  pub version : pointwise eqb (take 2 u) (0 ∷ (1 ∷ [])) ≡ true
  pub body : v ≡ drop 2 u
  pub few : length bytes ≤ 11785
  pub first : 2 + 23 * field v 0 2 ≤ length v
  pub after : x ≡ drop (2 + 23 * field v 0 2) v
  pub second : 2 + 23 * field x 0 2 ≤ length x
  pub end : y ≡ drop (2 + 23 * field x 0 2) x

module _ {bytes u v x y : List ℕ} (C : Cut bytes u v x y) where
  body_is : v ≡ drop 5 bytes
  body_is = C.body ∙ ap (drop 2) C.unmarked ∙ drop-drop 2 3 bytes

  first_is : field v 0 2 ≡ first_count bytes
  first_is = ap (λ xs. field xs 0 2) body_is ∙ field_after bytes 5 0 2

  after_is : x ≡ drop (second_place bytes) bytes
  after_is =
      let e : 5 + (2 + 23 * field v 0 2) ≡ second_place bytes = omega (arith, first_is) in
      C.after ∙ ap (drop (2 + 23 * field v 0 2)) body_is ∙ drop-drop (2 + 23 * field v 0 2) 5 bytes ∙ ap (λ n. drop n bytes) e

  second_is : field x 0 2 ≡ second_count bytes
  second_is =
      let e : second_place bytes + 0 ≡ second_place bytes = omega arith in
      ap (λ xs. field xs 0 2) after_is ∙ field_after bytes (second_place bytes) 0 2 ∙ ap (λ n. field bytes n 2) e

  long : length y + (9 + 23 * (first_count bytes + second_count bytes)) ≡ length bytes
  long =
      let a = length-drop 5 bytes in
      let b = ap length body_is in
      let d = length-drop (2 + 23 * field v 0 2) v in
      let e = ap length C.after in
      let f = length-drop (2 + 23 * field x 0 2) x in
      let g = ap length C.end in
      omega (arith, a, b, d, e, f, g, first_is, second_is)

  marked_is : marked bytes ≡ true
  marked_is = mark bytes (same_text (take 3 bytes) (80 ∷ (67 ∷ (68 ∷ []))) (sym C.mark))

  version_is : version_one bytes ≡ true
  version_is =
      let q = same_text (take 2 u) (0 ∷ (1 ∷ [])) (sym C.version) in
      let n : field bytes 3 2 ≡ 1 = rw (← C.unmarked, q) in
      and_from _ _ (le-leb 5 (length bytes) (omega (arith, long))) (eq-eqb (field bytes 3 2) 1 n)

  pub no_fault : (length y ≡ 0) → file_fault bytes ≡ None
  no_fault e =
      let z : exact_length bytes ≡ true = and_from _ _ (le-leb (length bytes) 11785 C.few) (eq-eqb (length bytes) (9 + 23 * (first_count bytes + second_count bytes)) (omega (arith, long))) in
      rw (marked_is, version_is, z)

  pub a_fault : (length y ≡ 0 → ⊥) → file_fault bytes ≡ Some Length
  a_fault e =
      let z : eqb (length bytes) (9 + 23 * (first_count bytes + second_count bytes)) ≡ false = ne_eqb _ _ (λ q. e (omega (arith, long))) in
      grind (arith, nat_tests)

  pub first_at : nodes_at v 2 (field v 0 2) ≡ nodes_at bytes 7 (first_count bytes)
  first_at = ap (λ xs. nodes_at xs 2 (field v 0 2)) body_is ∙ nodes_after bytes 5 2 _ ∙ ap (nodes_at bytes 7) first_is

  pub second_at : nodes_at x 2 (field x 0 2) ≡ nodes_at bytes (second_place bytes + 2) (second_count bytes)
  second_at = ap (λ xs. nodes_at xs 2 (field x 0 2)) after_is ∙ nodes_after bytes (second_place bytes) 2 _ ∙ ap (nodes_at bytes (second_place bytes + 2)) second_is
