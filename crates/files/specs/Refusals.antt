-- The questions asked of a file, in order, and the number of each. None has a place other than 0.
use Rattle.std.specs.Prelude.{ℕ, cond, List, Some, None, Option}
use Rattle.files.specs.Layouts.{marked, version_one, exact_length}
use Rattle.files.specs.declared.refusal.FileRefusal.{FileRefusal}
use Rattle.files.specs.declared.refusal.FileRefusal.TheVariants.{Mark, Version, Length}

abbrev pub number : FileRefusal → ℕ
number Mark = 28
number Version = 29
number Length = 30

abbrev pub file_fault : List ℕ → Option FileRefusal
file_fault bytes = cond (marked bytes) (cond (version_one bytes) (cond (exact_length bytes) None (Some Length)) (Some Version)) (Some Mark)
