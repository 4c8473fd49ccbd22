-- The transitions of a list whose actions pass a test, in their order.
use Rattle.std.specs.Prelude.{ℕ, Bool, List, filter}
use Rattle.theory.specs.Systems.{Move}

abbrev pub by_code : (ℕ → Bool) → Move → Bool
by_code p m = p m.0

abbrev pub kept : (ℕ → Bool) → List Move → List Move
kept p ms = filter (by_code p) ms
