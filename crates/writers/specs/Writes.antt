-- What the writers of sheets answer, and what they leave in the rows.
use Rattle.std.specs.Prelude.{◌≡◌, ℕ, ◌+◌, ◌*◌, ◌<◌, ◌≤◌, Bool, true, false, cond, ◌&&◌, ◌||◌, List, length, take, drop, Some, None, Ok, Err, Option, Result, ◌==◌, nat_le, nat_lt, slice_index}
use Rattle.theory.specs.Systems.{Lts}
use Rattle.theory.specs.Bisimulations.{Bisimilar}
use Rattle.refinement.specs.Cells.{some}
use Rattle.refinement.specs.Runs.{SettledByRun}
use Rattle.comparison.specs.declared.comparison.Refusal.{Refusal}
use Rattle.comparison.specs.declared.comparison.Verdict.{Verdict}
use Rattle.comparison.specs.declared.comparison.Verdict.TheVariants.{Equal, Different}
use Rattle.comparison.specs.Comparisons.{number as comparison_number}
use Rattle.certificates.specs.declared.rows.EqualRow.{EqualRow}
use Rattle.certificates.specs.declared.rows.DifferentRow.{DifferentRow}
use Rattle.certificates.specs.EqualSheets.{AcceptedEqual}
use Rattle.certificates.specs.DifferentSheets.{AcceptedDifferent}
use Rattle.certificates.specs.Listings.{is_zero, equal_listing, different_numbers, cell_entry}
use Rattle.writers.specs.declared.refusal.WriteRefusal.{WriteRefusal}
use Rattle.writers.specs.declared.refusal.WriteRefusal.TheVariants.{Comparison, OtherVerdict, NoMove, FewRows}

-- Each refusal has a number, and none has a place other than 0.
abbrev pub number : WriteRefusal → ℕ
number (Comparison f) = comparison_number f
number OtherVerdict = 20
number NoMove = 13
number FewRows = 21

-- The verdict's own questions come first. Then: is that the verdict, and are there rows enough.
abbrev pub equal_write_fault : Result Verdict Refusal → ℕ → ℕ → Option WriteRefusal
equal_write_fault (Err f) count len = Some (Comparison f)
equal_write_fault (Ok Equal) count len = cond (nat_le count len) None (Some FewRows)
equal_write_fault (Ok (Different v)) count len = Some OtherVerdict

-- A different sheet is asked in between whether each of its rows has a move.
abbrev pub different_write_fault : Result Verdict Refusal → Bool → ℕ → ℕ → Option WriteRefusal
different_write_fault (Err f) lacks count len = Some (Comparison f)
different_write_fault (Ok Equal) lacks count len = Some OtherVerdict
different_write_fault (Ok (Different v)) lacks count len = cond lacks (Some NoMove) (cond (nat_le count len) None (Some FewRows))

abbrev pub is_none : {X : Type 0} → Option X → Bool
is_none None = true
is_none (Some x) = false

abbrev pub cell_of : List ℕ → ℕ → ℕ
cell_of cells i = slice_index cells i

-- struck in a round below v, and in round v
abbrev pub lower : (ℕ → ℕ) → ℕ → ℕ → Bool
lower cell v i = nat_lt 0 (cell i) && nat_lt (cell i) v

abbrev pub in_round : (ℕ → ℕ) → ℕ → ℕ → Bool
in_round cell v i = cell i == v

-- the pair i belongs to the different sheet for the pair a
abbrev pub named : (ℕ → ℕ) → ℕ → ℕ → Bool
named cell a i = lower cell (cell a) i || i == a

-- some pair of the sheet for the pair a has no move
abbrev pub lacks_move : Lts → Lts → (ℕ → ℕ) → ℕ → Bool
lacks_move M N cell a = some (λ i. is_none (cell_entry M N cell i)) (different_numbers cell (M.n * N.n) a)

-- A refused call leaves the rows as they were. Otherwise the answer is how many rows were written, the first ones are the
-- sheet, and the later ones are as they were.
abbrev pub Written : {Row : Type 0} → Option WriteRefusal → (List Row → Type 0) → List Row → List Row → Result ℕ WriteRefusal → Type 0
Written fault Is old new (Ok m) = (fault ≡ None) × (m ≤ length new) × Is (take m new) × (drop m new ≡ drop m old)
Written fault Is old new (Err f) = (fault ≡ Some f) × (new ≡ old)

-- The cells come from a settled run on M and N, and the states exist and are bisimilar: given rows enough, a sheet is written
-- that is accepted for them.
abbrev pub EqualWritten : Lts → Lts → ℕ → ℕ → ℕ → List ℕ → ℕ → ℕ → List EqualRow → Result ℕ WriteRefusal → Type 0
EqualWritten M N n1 n2 made cells s t new r = SettledByRun M N n1 n2 made cells → s < M.n → t < N.n → Bisimilar M N s t
    → length (equal_listing N.n (is_zero (cell_of cells)) (M.n * N.n)) ≤ length new
    → (m : ℕ) × (r ≡ Ok m) × AcceptedEqual M N (take m new) s t

-- The same for states that are not bisimilar.
abbrev pub DifferentWritten : Lts → Lts → ℕ → ℕ → ℕ → List ℕ → ℕ → ℕ → List DifferentRow → Result ℕ WriteRefusal → Type 0
DifferentWritten M N n1 n2 made cells s t new r = SettledByRun M N n1 n2 made cells → s < M.n → t < N.n → (Bisimilar M N s t → ⊥)
    → length (different_numbers (cell_of cells) (M.n * N.n) (s * N.n + t)) ≤ length new
    → (m : ℕ) × (r ≡ Ok m) × AcceptedDifferent M N (take m new) s t
