-- A list that a filter leaves is no longer than the list.
use Rattle.std.proofs.Common.{◌≤◌, Bool, not, List, length, filter, refl, arith}
use Rattle.std.proofs.lemmas.List.Filters.{length-filter_both}

pub kept_short : {X : Type 0} (p : X → Bool) (xs : List X) → length (filter p xs) ≤ length xs
kept_short p xs = omega (arith, length-filter_both p (λ x. not (p x)) (λ x. refl) xs)
