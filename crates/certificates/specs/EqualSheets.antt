-- An equal sheet lists the pairs of a bisimulation.
use Rattle.std.specs.Prelude.{◌≡◌, ℕ, ◌<◌, Bool, cond, ◌&&◌, ◌↔◌, List, length, Some, None, Option, ◌==◌, nat_lt, slice_index_or}
use mathlib.Core.List.{Memᴰ}
use Rattle.theory.specs.Systems.{Move, Lts, Moves, Lawful}
use Rattle.theory.specs.Bisimulations.{Answers, Bisimulation, Bisimilar}
use Rattle.refinement.specs.Cells.{some, answered}
use Rattle.certificates.specs.declared.rows.EqualRow.{EqualRow}
use Rattle.certificates.specs.declared.fault.SheetFault.{SheetFault}
use Rattle.certificates.specs.declared.fault.SheetFault.TheVariants.{NoSuchState, Unanswered}
use Rattle.theory.specs.Faults.{or_else, first_fault as first}
use Rattle.certificates.specs.Faults.{Counted, Refused, sheet_fault}

-- the rows as a relation
abbrev pub Listed : List EqualRow → ℕ → ℕ → Type 0
Listed rows s t = Memᴰ {A = EqualRow} (record { left = s; right = t }) rows

pub record AcceptedEqual (M N : Lts) (rows : List EqualRow) (s t : ℕ) : Type 0 where
  pub count : Counted (length rows)
  pub exist : (x y : ℕ) → Listed rows x y → (x < M.n) × (y < N.n)
  pub bisimulation : Bisimulation M N (Listed rows)
  pub asked : Listed rows s t

-- Some equal sheet is accepted for two states exactly if they are bisimilar.
abbrev pub EqualDecided : Lts → Lts → ℕ → ℕ → Type 0
EqualDecided M N s t = s < M.n → t < N.n → ((rows : List EqualRow) × AcceptedEqual M N rows s t) ↔ Bisimilar M N s t

abbrev pub EqualSheets : Type 0
EqualSheets = (M N : Lts) → Lawful M → Lawful N → (s t : ℕ) → EqualDecided M N s t

-- What is asked of the row i: do its states exist, and is each transition answered within the rows?
abbrev pub row_at : List EqualRow → ℕ → EqualRow
row_at rows i = slice_index_or rows i (record { left = 0; right = 0 })

abbrev pub Exists : Lts → Lts → ℕ → ℕ → Type 0
Exists M N s t = (s < M.n) × (t < N.n)

abbrev pub PassesEqual : Lts → Lts → List EqualRow → ℕ → Type 0
PassesEqual M N rows i = Exists M N (row_at rows i).left (row_at rows i).right
    × Answers M N (Listed rows) (row_at rows i).left (row_at rows i).right
    × Answers N M (λ y x. Listed rows x y) (row_at rows i).right (row_at rows i).left

-- the transition m has an answer by t in N, to a target that R pairs with its own
abbrev pub Answered : Lts → (ℕ → ℕ → Type 0) → ℕ → Move → Type 0
Answered N R t m = (t' : ℕ) × Moves N t m.0 t' × R m.1 t'

-- the k-th transition of s is the first that t does not answer
abbrev pub FirstUnanswered : Lts → Lts → (ℕ → ℕ → Type 0) → ℕ → ℕ → ℕ → Type 0
FirstUnanswered M N R s t k = (k < length (M.moves s))
    × ((j : ℕ) → j < k → Answered N R t (slice_index_or (M.moves s) j (0, 0)))
    × (Answered N R t (slice_index_or (M.moves s) k (0, 0)) → ⊥)

-- what is wrong with the row i; the left side is asked before the right
pub data FailsEqual (M N : Lts) (rows : List EqualRow) (i : ℕ) (f : SheetFault) : Type 0 where
  no_state : f ≡ NoSuchState i → (Exists M N (row_at rows i).left (row_at rows i).right → ⊥) → FailsEqual M N rows i f
  left_open : (k : ℕ) → f ≡ Unanswered i 0 k → Exists M N (row_at rows i).left (row_at rows i).right
      → FirstUnanswered M N (Listed rows) (row_at rows i).left (row_at rows i).right k → FailsEqual M N rows i f
  right_open : (k : ℕ) → f ≡ Unanswered i 1 k → Exists M N (row_at rows i).left (row_at rows i).right
      → Answers M N (Listed rows) (row_at rows i).left (row_at rows i).right
      → FirstUnanswered N M (λ y x. Listed rows x y) (row_at rows i).right (row_at rows i).left k → FailsEqual M N rows i f

abbrev pub RefusedEqual : Lts → Lts → List EqualRow → ℕ → ℕ → SheetFault → Type 0
RefusedEqual M N rows s t f = Refused (length rows) (PassesEqual M N rows) (FailsEqual M N rows) (Listed rows s t) f

-- The same as tests. ok tells which pairs are among the rows.
abbrev pub listed : List EqualRow → ℕ → ℕ → Bool
listed rows x y = some (λ r. (r.left == x) && r.right == y) rows

abbrev pub move_fault : (ℕ → ℕ → Bool) → List Move → ℕ → ℕ → ℕ → Move → Option SheetFault
move_fault ok ks i side k m = cond (answered ok ks m) None (Some (Unanswered i side k))

abbrev pub answer_fault : Lts → Lts → (ℕ → ℕ → Bool) → ℕ → ℕ → ℕ → Option SheetFault
answer_fault M N ok i s t = or_else (first (move_fault ok (N.moves t) i 0) 0 (M.moves s)) (first (move_fault (λ y x. ok x y) (M.moves s) i 1) 0 (N.moves t))

abbrev pub equal_row_fault : Lts → Lts → (ℕ → ℕ → Bool) → ℕ → EqualRow → Option SheetFault
equal_row_fault M N ok i r = cond (nat_lt r.left M.n && nat_lt r.right N.n) (answer_fault M N ok i r.left r.right) (Some (NoSuchState i))

abbrev pub equal_fault : Lts → Lts → List EqualRow → ℕ → ℕ → Option SheetFault
equal_fault M N rows s t = sheet_fault (length rows) (first (equal_row_fault M N (listed rows)) 0 rows) (listed rows s t)
