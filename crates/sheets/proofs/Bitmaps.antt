-- Bits of words, and of lists of words.
use Rattle.std.proofs.Common.{◌≡◌, ℕ, ◌+◌, ◌-◌, ◌*◌, ◌/◌, ◌%◌, ◌^◌, ◌<◌, max, Bool, true, false, ◌||◌, eqb, ◌≢◌, List, length, get_or, set, sym, refl, ap, ◌∙◌, inl, inr, arith, get_or-set_other, get_or-set_same}
use lib.Bits.{bit_or, or_step}
use Rattle.std.proofs.lemmas.Nat.{or_shr, pow_pos, pow-add, pow_below, mod_below, div_below, mod-mul-add, div-add-mod', shl-shr}
use Rattle.std.proofs.lemmas.Bool.{cases_order, cases_eq, eq-eqb, ne_eqb}
use Rattle.std.proofs.lemmas.Bool.Decides.{nat_tests}
use Rattle.sheets.specs.Bitmaps.{bit_at}

or_odd : (a b : ℕ) → bit_or a b % 2 ≡ max (a % 2) (b % 2)
or_odd a b =
    let e = or_step a b in
    let la = mod_below a 2 (omega arith) in
    let lb = mod_below b 2 (omega arith) in
    let m : max (a % 2) (b % 2) < 2 = omega arith in
    ap (λ n. n % 2) e ∙ mod-mul-add (bit_or (a / 2) (b / 2)) 2 (max (a % 2) (b % 2)) m

pow_div_self : (k : ℕ) → 2 ^ k / 2 ^ k ≡ 1
pow_div_self k = ap (λ n. n / 2 ^ k) (let e : 2 ^ k ≡ 1 * 2 ^ k = omega arith in e) ∙ shl-shr 1 k

pow_bit : (j k : ℕ) → eqb (2 ^ j / 2 ^ k % 2) 1 ≡ eqb j k
pow_bit j k = elim (cases_order j k) [
  | inl e ↦ ap (λ n. eqb (2 ^ n / 2 ^ k % 2) 1) e ∙ ap (λ n. eqb (n % 2) 1) (pow_div_self k) ∙ sym (eq-eqb j k e)
  | inr (inl l) ↦
      let z : 2 ^ j / 2 ^ k ≡ 0 = let d = div_below (2 ^ j) (2 ^ k) 1 (pow_pos k) (omega (arith, pow_below j k l)) in omega arith in
      ap (λ n. eqb (n % 2) 1) z ∙ sym (ne_eqb j k (λ e. absurd (omega arith)))
  | inr (inr l) ↦
      let d = j - k - 1 in
      let split : 2 ^ j ≡ 2 ^ d * 2 * 2 ^ k = ap (λ n. 2 ^ n) (let e : j ≡ d + 1 + k = omega arith in e) ∙ pow-add 2 (d + 1) k ∙ ap (λ n. n * 2 ^ k) (pow-add 2 d 1) in
      let half : 2 ^ j / 2 ^ k ≡ 2 ^ d * 2 = ap (λ n. n / 2 ^ k) split ∙ shl-shr (2 ^ d * 2) k in
      let even : 2 ^ d * 2 % 2 ≡ 0 = ap (λ n. n % 2) (let e : 2 ^ d * 2 ≡ 2 ^ d * 2 + 0 = omega arith in e) ∙ mod-mul-add (2 ^ d) 2 0 (omega arith) in
      ap (λ n. eqb (n % 2) 1) half ∙ ap (λ n. eqb n 1) even ∙ sym (ne_eqb j k (λ e. absurd (omega arith)))
]

max_one : (a b : ℕ) → a < 2 → b < 2 → eqb (max a b) 1 ≡ (eqb a 1 || eqb b 1)
max_one a b la lb = grind (arith, nat_tests)

or_bit : (w j k : ℕ) → eqb (bit_or w (2 ^ j) / 2 ^ k % 2) 1 ≡ (eqb (w / 2 ^ k % 2) 1 || eqb j k)
or_bit w j k =
    ap (λ n. eqb (n % 2) 1) (or_shr w (2 ^ j) k)
    ∙ ap (λ n. eqb n 1) (or_odd (w / 2 ^ k) (2 ^ j / 2 ^ k))
    ∙ max_one (w / 2 ^ k % 2) (2 ^ j / 2 ^ k % 2) (mod_below (w / 2 ^ k) 2 (omega arith)) (mod_below (2 ^ j / 2 ^ k) 2 (omega arith))
    ∙ ap (λ b. eqb (w / 2 ^ k % 2) 1 || b) (pow_bit j k)

same_places : (i k : ℕ) → i / 64 ≡ k / 64 → eqb (i % 64) (k % 64) ≡ eqb i k
same_places i k e = elim (cases_eq i k) [
  | inl h ↦ eq-eqb (i % 64) (k % 64) (ap (λ n. n % 64) h) ∙ sym (eq-eqb i k h)
  | inr n ↦ ne_eqb (i % 64) (k % 64) (λ h. n (sym (div-add-mod' i 64) ∙ ap (λ a. a * 64 + i % 64) e ∙ ap (λ b. k / 64 * 64 + b) h ∙ div-add-mod' k 64)) ∙ sym (ne_eqb i k n)
]

or_false : (b : Bool) → b ≡ (b || false)
or_false true = refl
or_false false = refl

pub bit_set : (words : List ℕ) (i k : ℕ) → i / 64 < length words → bit_at (set words (i / 64) (bit_or (get_or words (i / 64) 0) (2 ^ (i % 64)))) k ≡ (bit_at words k || eqb i k)
bit_set words i k l = elim (cases_eq (k / 64) (i / 64)) [
  | inl e ↦
      ap (λ n. eqb (get_or (set words (i / 64) (bit_or (get_or words (i / 64) 0) (2 ^ (i % 64)))) n 0 / 2 ^ (k % 64) % 2) 1) e
      ∙ ap (λ w. eqb (w / 2 ^ (k % 64) % 2) 1) (rw get_or-set_same)
      ∙ or_bit (get_or words (i / 64) 0) (i % 64) (k % 64)
      ∙ ap (λ n. eqb (get_or words n 0 / 2 ^ (k % 64) % 2) 1 || eqb (i % 64) (k % 64)) (sym e)
      ∙ ap (λ b. bit_at words k || b) (same_places i k (sym e))
  | inr n ↦
      let ne : k / 64 ≢ i / 64 = n in
      ap (λ w. eqb (w / 2 ^ (k % 64) % 2) 1) (rw get_or-set_other)
      ∙ or_false (bit_at words k)
      ∙ ap (λ b. bit_at words k || b) (sym (ne_eqb i k (λ e. n (ap (λ m. m / 64) (sym e)))))
]
