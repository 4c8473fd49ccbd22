-- The first fault of the rows does not depend on pairs of states that do not exist; and a number that a search finds is a fault.
use Rattle.std.proofs.Common.{◌≡◌, ℕ, ◌+◌, ◌<◌, Bool, true, false, cond, ◌&&◌, ◌||◌, eqb, ltb, ◌↔◌, List, [], ◌∷◌, Some, None, Ok, Err, Option, Result, sym, refl, ap, ◌∙◌, arith}
use Rattle.std.specs.Option.{option_map}
use Rattle.std.specs.List.{AllByRecursion}
use Rattle.std.proofs.lemmas.Bool.{and_from, lt-ltb}
use Rattle.theory.specs.Systems.{Move, Lts, Lawful, Sound}
use Rattle.theory.specs.Layers.{Layering, shown}
use Rattle.theory.proofs.Laws.{shown_lawful}
use Rattle.theory.proofs.Faults.{none_from_passed, fault_from_refused}
use Rattle.theory.specs.Faults.{or_else, first_fault as first, passed}
use Rattle.refinement.specs.Cells.{answered}
use Rattle.certificates.specs.declared.rows.EqualRow.{EqualRow}
use Rattle.certificates.specs.declared.fault.SheetFault.{SheetFault}
use Rattle.certificates.specs.declared.fault.SheetFault.TheVariants.{NoSuchState, Unanswered}
use Rattle.certificates.specs.EqualSheets.{listed, move_fault, equal_row_fault}
use Rattle.answers.specs.Views.{first_unanswered}
use Rattle.sheets.specs.Bitmaps.{within}

module _ {X Y : Type 0} (b : X → Bool) (g : ℕ → Y) where
  pub first_mapped : (n : ℕ) (xs : List X) → first (λ k x. cond (b x) None (Some (g k))) n xs ≡ option_map g (first (λ k x. cond (b x) None (Some k)) n xs)
  first_mapped n [] = refl
  first_mapped n (x ∷ xs) = go (b x) (first_mapped (n + 1) xs)
    where
      go : (c : Bool) → first (λ k x. cond (b x) None (Some (g k))) (n + 1) xs ≡ option_map g (first (λ k x. cond (b x) None (Some k)) (n + 1) xs)
          → or_else (cond c None (Some (g n))) (first (λ k x. cond (b x) None (Some (g k))) (n + 1) xs) ≡ option_map g (or_else (cond c None (Some n)) (first (λ k x. cond (b x) None (Some k)) (n + 1) xs))
      go true h = h
      go false h = refl

-- the fault that a search of a row makes
pub fault_numbered : (ok : ℕ → ℕ → Bool) (ks : List Move) (i side : ℕ) (ms : List Move) → first (move_fault ok ks i side) 0 ms ≡ option_map (Unanswered i side) (first_unanswered ok ms ks)
fault_numbered ok ks i side ms = first_mapped (answered ok ks) (Unanswered i side) 0 ms

-- a row that the left side passes has the fault of the right side, where the states and the pairs that are asked are the row's
right_fault : (M N : Lts) (ok : ℕ → ℕ → Bool) (i : ℕ) (r : EqualRow) (u v : Unit {0}) (o : Result (Unit {0}) SheetFault)
    → Ok u ≡ passed (cond (ltb r.left M.n && ltb r.right N.n) None (Some (NoSuchState i)))
    → Ok v ≡ passed (first (move_fault ok (N.moves r.right) i 0) 0 (M.moves r.left))
    → o ≡ passed (first (move_fault (λ y x. ok x y) (M.moves r.left) i 1) 0 (N.moves r.right))
    → o ≡ passed (equal_row_fault M N ok i r)
right_fault M N ok i r u v o h l e = grind arith

pub row_right : {X Y P : Type 0} (rule : Layering) (m : X → Lts) (n : Y → Lts) (holds : P → ℕ → ℕ → Bool) (left mine : X) (right other : Y) (pairs flipped : P) (s t i : ℕ) (r : EqualRow) (u v : Unit {0}) (o : Result (Unit {0}) SheetFault)
    → Ok u ≡ passed (cond (ltb r.left (m left).n && ltb r.right (n right).n) None (Some (NoSuchState i)))
    → Ok v ≡ passed (first (move_fault (holds pairs) ((shown rule (n other)).moves t) i 0) 0 ((shown rule (m mine)).moves s))
    → o ≡ passed (first (move_fault (λ y x. holds flipped x y) ((shown rule (m mine)).moves s) i 1) 0 ((shown rule (n other)).moves t))
    → mine ≡ left → s ≡ r.left → other ≡ right → t ≡ r.right → flipped ≡ pairs
    → o ≡ passed (equal_row_fault (shown rule (m left)) (shown rule (n right)) (holds pairs) i r)
row_right rule m n holds left mine right other pairs flipped s t i r u v o h l e a b c d f =
    right_fault (shown rule (m left)) (shown rule (n right)) (holds pairs) i r u v o h (rw (a, b, c, d) at l) (rw (f, a, b, c, d) at e)

-- relations that agree on states
pub answered_same : (n : ℕ) (ok ko : ℕ → ℕ → Bool) (m : Move) (ks : List Move) → AllByRecursion (Sound n) ks → ((y : ℕ) → y < n → ok m.1 y ≡ ko m.1 y) → answered ok ks m ≡ answered ko ks m
answered_same n ok ko m [] a h = refl
answered_same n ok ko m (k ∷ ks) a h =
    ap (λ v. (eqb m.0 k.0 && v) || answered ok ks m) (h k.1 a.0.1)
    ∙ ap (λ v. (eqb m.0 k.0 && ko m.1 k.1) || v) (answered_same n ok ko m ks a.1 h)

moves_same : (n1 n2 : ℕ) (ok ko : ℕ → ℕ → Bool) (i side j : ℕ) (ms ks : List Move) → AllByRecursion (Sound n1) ms → AllByRecursion (Sound n2) ks → ((x y : ℕ) → x < n1 → y < n2 → ok x y ≡ ko x y)
    → first (move_fault ok ks i side) j ms ≡ first (move_fault ko ks i side) j ms
moves_same n1 n2 ok ko i side j [] ks a b h = refl
moves_same n1 n2 ok ko i side j (m ∷ ms) ks a b h =
    ap (λ v. or_else (cond v None (Some (Unanswered i side j))) (first (move_fault ok ks i side) (j + 1) ms)) (answered_same n2 ok ko m ks b (λ y l. h m.1 y a.0.1 l))
    ∙ ap (λ v. or_else (move_fault ko ks i side j m) v) (moves_same n1 n2 ok ko i side (j + 1) ms ks a.1 b h)

module _ (M N : Lts) (lM : Lawful M) (lN : Lawful N) (ok ko : ℕ → ℕ → Bool) (h : (x y : ℕ) → x < M.n → y < N.n → ok x y ≡ ko x y) where
  row_same : (i : ℕ) (r : EqualRow) → equal_row_fault M N ok i r ≡ equal_row_fault M N ko i r
  row_same i r = ap (λ v. cond (ltb r.left M.n && ltb r.right N.n) v (Some (NoSuchState i)))
      (ap (λ v. or_else v (first (move_fault (λ y x. ok x y) (M.moves r.left) i 1) 0 (N.moves r.right))) (moves_same M.n N.n ok ko i 0 0 (M.moves r.left) (N.moves r.right) (lM.sound r.left) (lN.sound r.right) h)
      ∙ ap (λ v. or_else (first (move_fault ko (N.moves r.right) i 0) 0 (M.moves r.left)) v) (moves_same N.n M.n (λ y x. ok x y) (λ y x. ko x y) i 1 0 (N.moves r.right) (M.moves r.left) (lN.sound r.right) (lM.sound r.left) (λ y x ly lx. h x y lx ly)))

  pub rows_same : (i : ℕ) (rows : List EqualRow) → first (equal_row_fault M N ok) i rows ≡ first (equal_row_fault M N ko) i rows
  rows_same i [] = refl
  rows_same i (r ∷ rows) = ap (λ v. or_else v (first (equal_row_fault M N ok) (i + 1) rows)) (row_same i r) ∙ ap (λ v. or_else (equal_row_fault M N ko i r) v) (rows_same (i + 1) rows)

-- the pairs that are gathered serve as well as the rows
pub gathered_fault : (rule : Layering) (M N : Lts) → Lawful M → Lawful N → (ok : ℕ → ℕ → Bool) (rows : List EqualRow) → ((a b : ℕ) → ok a b ≡ (within M.n N.n a b && listed rows a b))
    → first (equal_row_fault (shown rule M) (shown rule N) ok) 0 rows ≡ first (equal_row_fault (shown rule M) (shown rule N) (listed rows)) 0 rows
gathered_fault rule M N lM lN ok rows h = rows_same (shown rule M) (shown rule N) (shown_lawful rule M lM) (shown_lawful rule N lN) ok (listed rows) (λ x y lx ly.
    h x y ∙ ap (λ v. v && listed rows x y) (and_from (ltb x M.n) (ltb y N.n) (lt-ltb x M.n lx) (lt-ltb y N.n ly))) 0 rows

-- an answer that says what was found
module _ (r : Result (Unit {0}) SheetFault) (fault : Option SheetFault) (e : r ≡ passed fault) where
  pub answer_accepted : (Accepted : Type 0) → (fault ≡ None) ↔ Accepted → (r ≡ Ok tt) ↔ Accepted
  answer_accepted Accepted a = ((λ h. a.0 (none_from_passed fault tt (sym h ∙ e))), (λ h. e ∙ ap passed (a.1 h)))

  pub answer_refused : (Refused : SheetFault → Type 0) → ((f : SheetFault) → (fault ≡ Some f) ↔ Refused f) → (f : SheetFault) → (r ≡ Err f) ↔ Refused f
  answer_refused Refused a f = ((λ h. (a f).0 (fault_from_refused fault f (sym h ∙ e))), (λ h. e ∙ ap passed ((a f).1 h)))
