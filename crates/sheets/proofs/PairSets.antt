-- A bitmap into which pairs are put one after another.
use Rattle.std.proofs.Common.{◌≡◌, ℕ, ◌+◌, ◌*◌, ◌/◌, ◌%◌, ◌^◌, ◌<◌, Bool, true, false, ◌&&◌, ◌||◌, eqb, ltb, List, [], ◌∷◌, ◌++◌, replicate, sym, refl, ap, ◌∙◌, inl, inr, arith}
use Rattle.std.proofs.lemmas.Nat.{div-mul-add, mod-mul-add, div_below, pow_pos}
use Rattle.std.proofs.Math.Bool.{or-false}
use Rattle.std.proofs.lemmas.List.{get_or-replicate, get_or_past, length-replicate}
use Rattle.std.proofs.lemmas.Bool.{cases_eq, cases_lt, and_parts, ltb-true, eq-eqb, ne_eqb}
use Rattle.refinement.specs.Cells.{some}
use Rattle.certificates.specs.declared.rows.EqualRow.{EqualRow}
use Rattle.certificates.specs.EqualSheets.{listed}
use Rattle.sheets.specs.Bitmaps.{bit_at, within, pair_bit}

pub no_bit : (k : ℕ) → bit_at (replicate 16384 0) k ≡ false
no_bit k = elim (cases_lt (k / 64) 16384) [
  | inl l ↦ ap (λ w. eqb (w / 2 ^ (k % 64) % 2) 1) (get_or-replicate 16384 (k / 64) 0 0 l) ∙ zero_bit (k % 64)
  | inr l ↦ ap (λ w. eqb (w / 2 ^ (k % 64) % 2) 1) (get_or_past (replicate 16384 0) (k / 64) 0 (omega (arith, length-replicate {A = ℕ} 16384 0))) ∙ zero_bit (k % 64)
]
  where
    zero_bit : (j : ℕ) → eqb (0 / 2 ^ j % 2) 1 ≡ false
    zero_bit j = ap (λ n. eqb (n % 2) 1) (let d = div_below 0 (2 ^ j) 1 (pow_pos j) (omega (arith, pow_pos j)) in let e : 0 / 2 ^ j ≡ 0 = omega arith in e)

same_pair : (n2 x y a b : ℕ) → y < n2 → b < n2 → eqb (x * n2 + y) (a * n2 + b) ≡ (eqb x a && eqb y b)
same_pair n2 x y a b ly lb = elim (cases_eq x a) [
  | inl e ↦ elim (cases_eq y b) [
    | inl f ↦ eq-eqb (x * n2 + y) (a * n2 + b) (ap (λ v. v * n2 + y) e ∙ ap (λ v. a * n2 + v) f) ∙ sym (ap (λ v. v && eqb y b) (eq-eqb x a e) ∙ eq-eqb y b f)
    | inr n ↦ ne_eqb (x * n2 + y) (a * n2 + b) (λ h. n (sym (mod-mul-add x n2 y ly) ∙ ap (λ v. v % n2) h ∙ mod-mul-add a n2 b lb)) ∙ sym (ap (λ v. v && eqb y b) (eq-eqb x a e) ∙ ne_eqb y b n)
  ]
  | inr n ↦ ne_eqb (x * n2 + y) (a * n2 + b) (λ h. n (sym (div-mul-add x n2 y ly) ∙ ap (λ v. v / n2) h ∙ div-mul-add a n2 b lb)) ∙ sym (ap (λ v. v && eqb y b) (ne_eqb x a n))
]

-- one more pair
pub pair_put : (n1 n2 x y i : ℕ) (words new : List ℕ) → within n1 n2 x y ≡ true → i ≡ x * n2 + y → ((k : ℕ) → bit_at new k ≡ (bit_at words k || eqb i k)) → (a b : ℕ)
    → pair_bit n1 n2 new a b ≡ (pair_bit n1 n2 words a b || (within n1 n2 a b && (eqb x a && eqb y b)))
pair_put n1 n2 x y i words new h at put a b = go (within n1 n2 a b) refl
  where
    go : (v : Bool) → within n1 n2 a b ≡ v → (v && bit_at new (a * n2 + b)) ≡ ((v && bit_at words (a * n2 + b)) || (v && (eqb x a && eqb y b)))
    go true e =
        let p = and_parts (ltb x n1) (ltb y n2) h in
        let q = and_parts (ltb a n1) (ltb b n2) e in
        put (a * n2 + b) ∙ ap (λ v. bit_at words (a * n2 + b) || eqb v (a * n2 + b)) at ∙ ap (λ v. bit_at words (a * n2 + b) || v) (same_pair n2 x y a b (ltb-true y n2 p.1) (ltb-true b n2 q.1))
    go false e = refl

-- the pairs of the first rows
some_push : {X : Type 0} (p : X → Bool) (xs : List X) (x : X) → some p (xs ++ (x ∷ [])) ≡ (some p xs || p x)
some_push p [] x = go (p x)
  where
    go : (b : Bool) → (b || false) ≡ b
    go true = refl
    go false = refl
some_push p (z ∷ xs) x = ap (λ b. p z || b) (some_push p xs x) ∙ go (p z) (some p xs) (p x)
  where
    go : (a b c : Bool) → (a || (b || c)) ≡ ((a || b) || c)
    go true b c = refl
    go false b c = refl

pub listed_push : (rows : List EqualRow) (r : EqualRow) (a b : ℕ) → listed (rows ++ (r ∷ [])) a b ≡ (listed rows a b || (eqb r.left a && eqb r.right b))
listed_push rows r a b = some_push (λ (z : EqualRow). eqb z.left a && eqb z.right b) rows r

-- the bitmap holds the pairs, as far as their states exist, beside those that it held before
abbrev pub Gathered : ℕ → ℕ → (ℕ → ℕ → Bool) → List ℕ → List EqualRow → Type 0
Gathered n1 n2 held words pairs = (a b : ℕ) → pair_bit n1 n2 words a b ≡ (held a b || (within n1 n2 a b && listed pairs a b))

pub gathered_none : (n1 n2 : ℕ) (words : List ℕ) → Gathered n1 n2 (pair_bit n1 n2 words) words []
gathered_none n1 n2 words a b = go (within n1 n2 a b) (bit_at words (a * n2 + b))
  where
    go : (u v : Bool) → (u && v) ≡ ((u && v) || (u && false))
    go true v = sym (or-false v)
    go false v = refl

-- a set that was empty
pub gathered_new : (n1 n2 k1 k2 m1 m2 : ℕ) (none words : List ℕ) (rows : List EqualRow) → k1 ≡ n1 → k2 ≡ n2 → m1 ≡ k1 → m2 ≡ k2 → ((k : ℕ) → bit_at none k ≡ false) → Gathered k1 k2 (pair_bit k1 k2 none) words rows
    → (a b : ℕ) → pair_bit m1 m2 words a b ≡ (within n1 n2 a b && listed rows a b)
gathered_new n1 n2 k1 k2 m1 m2 none words rows d e f g empty h a b =
    ap (λ v. pair_bit v m2 words a b) f ∙ ap (λ v. pair_bit k1 v words a b) g ∙ h a b
    ∙ ap (λ v. (within k1 k2 a b && v) || (within k1 k2 a b && listed rows a b)) (empty (a * k2 + b)) ∙ go (within k1 k2 a b) (listed rows a b)
    ∙ ap (λ v. within v k2 a b && listed rows a b) d ∙ ap (λ v. within n1 v a b && listed rows a b) e
  where
    go : (u v : Bool) → ((u && false) || (u && v)) ≡ (u && v)
    go true v = refl
    go false v = refl

-- a step of a loop that puts pairs in
pub gathered_more : (n1 n2 : ℕ) (held : ℕ → ℕ → Bool) (m1 m2 : ℕ) (words new : List ℕ) (pairs more : List EqualRow) (r : EqualRow) → m1 ≡ n1 → m2 ≡ n2 → more ≡ pairs ++ (r ∷ []) → Gathered n1 n2 held words pairs
    → ((a b : ℕ) → pair_bit m1 m2 new a b ≡ (pair_bit m1 m2 words a b || (within m1 m2 a b && (eqb r.left a && eqb r.right b)))) → Gathered n1 n2 held new more
gathered_more n1 n2 held m1 m2 words new pairs more r e f m inv put a b =
    ap (λ v. pair_bit v n2 new a b) (sym e) ∙ ap (λ v. pair_bit m1 v new a b) (sym f) ∙ put a b
    ∙ ap (λ v. pair_bit v m2 words a b || (within v m2 a b && (eqb r.left a && eqb r.right b))) e
    ∙ ap (λ v. pair_bit n1 v words a b || (within n1 v a b && (eqb r.left a && eqb r.right b))) f
    ∙ ap (λ v. v || (within n1 n2 a b && (eqb r.left a && eqb r.right b))) (inv a b)
    ∙ go (held a b) (within n1 n2 a b) (listed pairs a b) (eqb r.left a && eqb r.right b)
    ∙ ap (λ v. held a b || (within n1 n2 a b && v)) (sym (listed_push pairs r a b))
    ∙ ap (λ rs. held a b || (within n1 n2 a b && listed rs a b)) (sym m)
  where
    go : (h u v w : Bool) → ((h || (u && v)) || (u && w)) ≡ (h || (u && (v || w)))
    go true u v w = refl
    go false true v w = refl
    go false false v w = refl
