-- Questions asked of each element of a list, in order: the first fault found, if any.
use Rattle.std.specs.Prelude.{ℕ, ◌+◌, List, [], ◌∷◌, Some, None, Ok, Err, Option, Result}

abbrev pub or_else : {F : Type 0} → Option F → Option F → Option F
or_else None next = next
or_else (Some f) next = Some f

-- the first fault among the elements of xs, the first of which is number i
abbrev pub first_fault : {X F : Type 0} → (ℕ → X → Option F) → ℕ → List X → Option F
first_fault q i [] = None
first_fault q i (x ∷ xs) = or_else (q i x) (first_fault q (i + 1) xs)

-- what a call that only asks answers
abbrev pub passed : {F : Type 0} → Option F → Result (Unit {0}) F
passed None = Ok tt
passed (Some f) = Err f
