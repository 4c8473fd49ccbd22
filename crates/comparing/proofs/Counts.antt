-- The cells that are zero.
use Rattle.std.proofs.Common.{◌≡◌, ℕ, zero, suc, ◌+◌, ◌≤◌, ◌<◌, Bool, cond, eqb, List, length, get_or, take, sym, refl, ap, ◌∙◌, inl, inr, add-one, arith}
use Rattle.std.proofs.lemmas.Bool.{cases_Bool}
use Rattle.std.proofs.lemmas.List.Sums.{count_by_more_yes, count_by_more_no}
use Rattle.std.specs.List.{count_by}
use Rattle.comparing.specs.Zeros.{passing, is_zero}

pub zeros_below : (cells : List ℕ) (n : ℕ) → n ≤ length cells → count_by (λ c. eqb c 0) (take n cells) ≡ passing (is_zero cells) n
zeros_below cells zero h = refl
zeros_below cells (suc n) h =
    let p : ℕ → Bool = λ c. eqb c 0 in
    let b = p (get_or cells n 0) in
    let count : ℕ → ℕ = λ m. count_by p (take m cells) in
    let l : n < length cells = omega arith in
    let step : count (n + 1) ≡ count n + cond b 1 0 = elim (cases_Bool b) [
      | inl t ↦ count_by_more_yes p cells n 0 l t ∙ ap (λ c. count n + cond c 1 0) (sym t)
      | inr t ↦ omega (arith, count_by_more_no p cells n 0 l t, ap (λ c. count n + cond c 1 0) t)
    ] in
    ap count (sym (add-one n)) ∙ step ∙ ap (λ m. m + cond b 1 0) (zeros_below cells n (omega arith))
