-- The first answer to a question that is asked in turn.
use Rattle.std.proofs.Common.{◌≡◌, ℕ, zero, suc, ◌+◌, ◌<◌, ◌⊎◌, List, [], ◌∷◌, length, get_or, Some, None, Option, sym, refl, ap, ◌∙◌, subst, inl, inr, arith}
use Rattle.std.proofs.lemmas.Option.{none-some}
use Rattle.theory.specs.Faults.{or_else, first_fault as first}

module _ {Y : Type 0} where
  pub or_none : (a b : Option Y) → or_else a b ≡ None → (a ≡ None) × (b ≡ None)
  or_none None b e = (refl, e)
  or_none (Some x) b e = absurd (none-some x (sym e))

  pub or_some : (a b : Option Y) (y : Y) → or_else a b ≡ Some y → (a ≡ Some y) ⊎ ((a ≡ None) × (b ≡ Some y))
  or_some None b y e = inr (refl, e)
  or_some (Some x) b y e = inl e

  pub or_left : (a b : Option Y) (y : Y) → a ≡ Some y → or_else a b ≡ Some y
  or_left a b y e = ap (λ v. or_else v b) e

  pub or_right : (a b : Option Y) → a ≡ None → or_else a b ≡ b
  or_right a b e = ap (λ v. or_else v b) e

module _ {X Y : Type 0} (q : ℕ → X → Option Y) (d : X) where
  pub first_none_out : (i : ℕ) (xs : List X) → first q i xs ≡ None → (k j : ℕ) → i + k ≡ j → k < length xs → q j (get_or xs k d) ≡ None
  first_none_out i [] e k j a l = absurd (omega arith)
  first_none_out i (x ∷ xs) e zero j a l = let h : i ≡ j = omega arith in subst (λ v. q v x ≡ None) h (or_none (q i x) (first q (i + 1) xs) e).0
  first_none_out i (x ∷ xs) e (suc k) j a l = first_none_out (i + 1) xs (or_none (q i x) (first q (i + 1) xs) e).1 k j (omega arith) (omega arith)

  pub first_none_in : (i : ℕ) (xs : List X) → ((k j : ℕ) → i + k ≡ j → k < length xs → q j (get_or xs k d) ≡ None) → first q i xs ≡ None
  first_none_in i [] f = refl
  first_none_in i (x ∷ xs) f = or_right (q i x) (first q (i + 1) xs) (f 0 i (omega arith) (omega arith)) ∙ first_none_in (i + 1) xs (λ k j a l. f (suc k) j (omega arith) (omega arith))

  -- the question has this answer at k, and none before
  abbrev pub AnswersAt : ℕ → List X → ℕ → Y → Type 0
  AnswersAt i xs k y = (k < length xs) × ((j n : ℕ) → i + j ≡ n → j < k → q n (get_or xs j d) ≡ None) × ((n : ℕ) → i + k ≡ n → q n (get_or xs k d) ≡ Some y)

  pub first_some_out : (i : ℕ) (xs : List X) (y : Y) → first q i xs ≡ Some y → (k : ℕ) × AnswersAt i xs k y
  first_some_out i [] y e = absurd (none-some y e)
  first_some_out i (x ∷ xs) y e = go (first_some_out (i + 1) xs y) (or_some (q i x) (first q (i + 1) xs) y e)
    where
      go : (first q (i + 1) xs ≡ Some y → (k : ℕ) × AnswersAt (i + 1) xs k y) → (q i x ≡ Some y) ⊎ ((q i x ≡ None) × (first q (i + 1) xs ≡ Some y)) → (k : ℕ) × AnswersAt i (x ∷ xs) k y
      go below (inl h) = (0, (omega arith, (λ j n a l. absurd (omega arith)), (λ n a. let b : i ≡ n = omega arith in subst (λ v. q v x ≡ Some y) b h)))
      go below (inr h) = let r = below h.1 in (suc r.0, (omega (arith, r.1.0), before r.0 r.1.1, (λ n a. r.1.2 n (omega arith))))
        where
          before : (m : ℕ) → ((j n : ℕ) → i + 1 + j ≡ n → j < m → q n (get_or xs j d) ≡ None) → (j n : ℕ) → i + j ≡ n → j < suc m → q n (get_or (x ∷ xs) j d) ≡ None
          before m f zero n a l = let b : i ≡ n = omega arith in subst (λ v. q v x ≡ None) b h.0
          before m f (suc j) n a l = f j n (omega arith) (omega arith)

  pub first_some_in : (i : ℕ) (xs : List X) (y : Y) (k : ℕ) → AnswersAt i xs k y → first q i xs ≡ Some y
  first_some_in i [] y k h = absurd (omega (arith, h.0))
  first_some_in i (x ∷ xs) y zero h = or_left (q i x) (first q (i + 1) xs) y (h.2 i (omega arith))
  first_some_in i (x ∷ xs) y (suc k) h = or_right (q i x) (first q (i + 1) xs) (h.1 0 i (omega arith) (omega arith)) ∙ first_some_in (i + 1) xs y k (omega (arith, h.0), (λ j n a l. h.1 (suc j) n (omega arith) (omega arith)), (λ n a. h.2 n (omega arith)))
