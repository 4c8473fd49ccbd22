-- How many numbers below n pass a test.
use Rattle.std.proofs.Common.{◌≡◌, ℕ, zero, suc, ◌+◌, ◌<◌, ◌≤◌, Bool, true, false, refl, ap, subst, inl, inr, arith}
use Rattle.std.proofs.lemmas.Bool.{false≢true, cases_eq}

abbrev pub one : Bool → ℕ
one true = 1
one false = 0

abbrev pub count : (ℕ → Bool) → ℕ → ℕ
count p zero = 0
count p (suc n) = one (p n) + count p n

one_le : (b : Bool) → one b ≤ 1
one_le true = omega arith
one_le false = omega arith

one_mono : (x y : Bool) → (y ≡ true → x ≡ true) → one y ≤ one x
one_mono true y f = one_le y
one_mono false true f = absurd (false≢true (f refl))
one_mono false false f = omega arith

one_strict : (x y : Bool) → x ≡ true → y ≡ false → one y < one x
one_strict x y p q = omega (arith, ap one p, ap one q)

pub count_le : (p : ℕ → Bool) (n : ℕ) → count p n ≤ n
count_le p zero = omega arith
count_le p (suc n) = omega (arith, one_le (p n), count_le p n)

pub count_mono : (p q : ℕ → Bool) (n : ℕ) → ((i : ℕ) → q i ≡ true → p i ≡ true) → count q n ≤ count p n
count_mono p q zero f = omega arith
count_mono p q (suc n) f = omega (arith, one_mono (p n) (q n) (f n), count_mono p q n f)

pub count_strict : (p q : ℕ → Bool) (n i : ℕ) → ((i : ℕ) → q i ≡ true → p i ≡ true) → i < n → p i ≡ true → q i ≡ false → count q n < count p n
count_strict p q zero i f l a b = absurd (omega arith)
count_strict p q (suc n) i f l a b = elim (cases_eq i n) [
  | inl e ↦ omega (arith, count_mono p q n f, one_strict (p n) (q n) (subst (λ j. p j ≡ true) e a) (subst (λ j. q j ≡ false) e b))
  | inr o ↦ omega (arith, one_mono (p n) (q n) (f n), count_strict p q n i f (omega arith) a b)
]
