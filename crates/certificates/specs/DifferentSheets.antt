-- A different sheet lists pairs of states that no bisimulation holds. Each row names a transition of one state, and whatever
-- answers it leads to a pair of an earlier row.
use Rattle.std.specs.Prelude.{◌≡◌, ℕ, ◌-◌, ◌<◌, ◌≤◌, Bool, cond, ◌&&◌, ◌↔◌, List, map, length, take, Some, None, Option, ◌==◌, nat_lt, slice_index_or}
use Rattle.theory.specs.Systems.{Move, Lts, Moves, Lawful}
use Rattle.theory.specs.Bisimulations.{Bisimilar}
use Rattle.certificates.specs.declared.rows.EqualRow.{EqualRow}
use Rattle.certificates.specs.declared.rows.DifferentRow.{DifferentRow}
use Rattle.certificates.specs.declared.fault.SheetFault.{SheetFault}
use Rattle.certificates.specs.declared.fault.SheetFault.TheVariants.{NoSuchState, NoSuchMove, Unanswered}
use Rattle.theory.specs.Faults.{first_fault as first}
use Rattle.certificates.specs.Faults.{Counted, Refused, sheet_fault}
use Rattle.certificates.specs.EqualSheets.{Exists, listed}
use Rattle.certificates.specs.Listings.{cornered}

abbrev pub different_row : List DifferentRow → ℕ → DifferentRow
different_row rows i = slice_index_or rows i (record { left = 0; right = 0; side = 0; k = 0 })

-- a row before row i has the pair (s, t)
abbrev pub Earlier : List DifferentRow → ℕ → ℕ → ℕ → Type 0
Earlier rows i s t = (j : ℕ) × (j < i) × ((different_row rows j).left ≡ s) × ((different_row rows j).right ≡ t)

abbrev pub move_at : Lts → ℕ → ℕ → Move
move_at M s k = slice_index_or (M.moves s) k (0, 0)

-- s has a k-th transition, and each answer to it by t leads to a pair of R
abbrev pub Cornered : Lts → Lts → (ℕ → ℕ → Type 0) → ℕ → ℕ → ℕ → Type 0
Cornered M N R s t k = (k < length (M.moves s)) × ((t' : ℕ) → Moves N t (move_at M s k).0 t' → R (move_at M s k).1 t')

-- t answers the k-th transition of s by one that leads to a pair outside R
abbrev pub Escapes : Lts → Lts → (ℕ → ℕ → Type 0) → ℕ → ℕ → ℕ → Type 0
Escapes M N R s t k = (t' : ℕ) × Moves N t (move_at M s k).0 t' × (R (move_at M s k).1 t' → ⊥)

-- Side 0 names a transition of the left state, side 1 one of the right state.
pub data PassesDifferent (M N : Lts) (rows : List DifferentRow) (i : ℕ) : Type 0 where
  by_left : Exists M N (different_row rows i).left (different_row rows i).right → (different_row rows i).side ≡ 0
      → Cornered M N (Earlier rows i) (different_row rows i).left (different_row rows i).right (different_row rows i).k
      → PassesDifferent M N rows i
  by_right : Exists M N (different_row rows i).left (different_row rows i).right → (different_row rows i).side ≡ 1
      → Cornered N M (λ y x. Earlier rows i x y) (different_row rows i).right (different_row rows i).left (different_row rows i).k
      → PassesDifferent M N rows i

abbrev pub Last : List DifferentRow → ℕ → ℕ → Type 0
Last rows s t = ((different_row rows (length rows - 1)).left ≡ s) × ((different_row rows (length rows - 1)).right ≡ t)

pub record AcceptedDifferent (M N : Lts) (rows : List DifferentRow) (s t : ℕ) : Type 0 where
  pub count : Counted (length rows)
  pub passes : (i : ℕ) → i < length rows → PassesDifferent M N rows i
  pub asked : Last rows s t

-- Some different sheet is accepted for two states exactly if they are not bisimilar.
abbrev pub DifferentDecided : Lts → Lts → ℕ → ℕ → Type 0
DifferentDecided M N s t = s < M.n → t < N.n → ((rows : List DifferentRow) × AcceptedDifferent M N rows s t) ↔ (Bisimilar M N s t → ⊥)

abbrev pub DifferentSheets : Type 0
DifferentSheets = (M N : Lts) → Lawful M → Lawful N → (s t : ℕ) → DifferentDecided M N s t

-- what is wrong with the row i; the side and the move that are reported are the row's own
pub data FailsDifferent (M N : Lts) (rows : List DifferentRow) (i : ℕ) (f : SheetFault) : Type 0 where
  no_state : f ≡ NoSuchState i → (Exists M N (different_row rows i).left (different_row rows i).right → ⊥) → FailsDifferent M N rows i f
  no_side : f ≡ NoSuchMove i → Exists M N (different_row rows i).left (different_row rows i).right → 1 < (different_row rows i).side
      → FailsDifferent M N rows i f
  no_left : f ≡ NoSuchMove i → Exists M N (different_row rows i).left (different_row rows i).right → (different_row rows i).side ≡ 0
      → length (M.moves (different_row rows i).left) ≤ (different_row rows i).k → FailsDifferent M N rows i f
  no_right : f ≡ NoSuchMove i → Exists M N (different_row rows i).left (different_row rows i).right → (different_row rows i).side ≡ 1
      → length (N.moves (different_row rows i).right) ≤ (different_row rows i).k → FailsDifferent M N rows i f
  left_escapes : f ≡ Unanswered i 0 (different_row rows i).k → Exists M N (different_row rows i).left (different_row rows i).right
      → (different_row rows i).side ≡ 0 → (different_row rows i).k < length (M.moves (different_row rows i).left)
      → Escapes M N (Earlier rows i) (different_row rows i).left (different_row rows i).right (different_row rows i).k
      → FailsDifferent M N rows i f
  right_escapes : f ≡ Unanswered i 1 (different_row rows i).k → Exists M N (different_row rows i).left (different_row rows i).right
      → (different_row rows i).side ≡ 1 → (different_row rows i).k < length (N.moves (different_row rows i).right)
      → Escapes N M (λ y x. Earlier rows i x y) (different_row rows i).right (different_row rows i).left (different_row rows i).k
      → FailsDifferent M N rows i f

abbrev pub RefusedDifferent : Lts → Lts → List DifferentRow → ℕ → ℕ → SheetFault → Type 0
RefusedDifferent M N rows s t f = Refused (length rows) (PassesDifferent M N rows) (FailsDifferent M N rows) (Last rows s t) f

-- The same as tests. ok tells which pairs are in earlier rows.
abbrev pub pair_of : DifferentRow → EqualRow
pair_of r = record { left = r.left; right = r.right }

abbrev pub earlier : List DifferentRow → ℕ → ℕ → ℕ → Bool
earlier rows i = listed (map pair_of (take i rows))

abbrev pub named_fault : (ℕ → ℕ → Bool) → List Move → List Move → ℕ → ℕ → ℕ → Option SheetFault
named_fault ok ms ks i side k = cond (nat_lt k (length ms))
    (cond (cornered ok ks (slice_index_or ms k (0, 0))) None (Some (Unanswered i side k)))
    (Some (NoSuchMove i))

abbrev pub side_fault : Lts → Lts → (ℕ → ℕ → Bool) → ℕ → DifferentRow → Option SheetFault
side_fault M N ok i r = cond (r.side == 0)
    (named_fault ok (M.moves r.left) (N.moves r.right) i 0 r.k)
    (cond (r.side == 1) (named_fault (λ y x. ok x y) (N.moves r.right) (M.moves r.left) i 1 r.k) (Some (NoSuchMove i)))

abbrev pub different_row_fault : Lts → Lts → (ℕ → ℕ → Bool) → ℕ → DifferentRow → Option SheetFault
different_row_fault M N ok i r = cond (nat_lt r.left M.n && nat_lt r.right N.n) (side_fault M N ok i r) (Some (NoSuchState i))

abbrev pub last_is : List DifferentRow → ℕ → ℕ → Bool
last_is rows s t = (different_row rows (length rows - 1)).left == s && (different_row rows (length rows - 1)).right == t

abbrev pub different_fault : Lts → Lts → List DifferentRow → ℕ → ℕ → Option SheetFault
different_fault M N rows s t = sheet_fault (length rows) (first (λ i r. different_row_fault M N (earlier rows i) i r) 0 rows) (last_is rows s t)
