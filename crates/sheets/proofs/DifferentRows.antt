-- The rows of a different sheet, asked one after another while their pairs are put into a bitmap.
use Rattle.std.proofs.Common.{◌≡◌, ℕ, ◌<◌, Bool, true, false, cond, not, ◌&&◌, eqb, ltb, List, map, length, get_or, take, Some, None, Ok, Result, refl, ap, ◌∙◌, arith}
use Rattle.std.specs.List.{AllByRecursion}
use Rattle.std.proofs.ByRecursion.{All-get_or}
use Rattle.std.proofs.lemmas.Bool.{ltb-true, and_from, lt-ltb}
use Rattle.theory.specs.Layers.{Layering, shown}
use Rattle.theory.proofs.Laws.{shown_lawful}
use Rattle.theory.specs.Faults.{passed}
use Rattle.theory.specs.Systems.{Move, Lts, Lawful, Sound}
use Rattle.certificates.specs.declared.rows.DifferentRow.{DifferentRow}
use Rattle.certificates.specs.declared.fault.SheetFault.{SheetFault}
use Rattle.certificates.specs.declared.fault.SheetFault.TheVariants.{NoSuchState, NoSuchMove, Unanswered}
use Rattle.certificates.specs.Listings.{cornered}
use Rattle.certificates.specs.DifferentSheets.{pair_of, earlier, named_fault, different_row_fault}
use Rattle.sheets.specs.Bitmaps.{pair_bit}
use Rattle.sheets.proofs.Rows.{answered_same}
use Rattle.sheets.proofs.PairSets.{Gathered}

-- a row that names the right side
pub row_right : (M N : Lts) (ok : ℕ → ℕ → Bool) (i : ℕ) (r : DifferentRow) (u : Unit {0}) (o : Result (Unit {0}) SheetFault)
    → Ok u ≡ passed (cond (ltb r.left M.n && ltb r.right N.n) None (Some (NoSuchState i))) → r.side ≡ 1
    → o ≡ passed (named_fault (λ y x. ok x y) (N.moves r.right) (M.moves r.left) i 1 r.k)
    → o ≡ passed (different_row_fault M N ok i r)
row_right M N ok i r u o h side e = grind arith

named_same : (n1 n2 : ℕ) (ok ko : ℕ → ℕ → Bool) (i side k : ℕ) (ms ks : List Move) → AllByRecursion (Sound n1) ms → AllByRecursion (Sound n2) ks → ((x y : ℕ) → x < n1 → y < n2 → ok x y ≡ ko x y)
    → named_fault ok ms ks i side k ≡ named_fault ko ms ks i side k
named_same n1 n2 ok ko i side k ms ks a b h = go (ltb k (length ms)) refl
  where
    go : (v : Bool) → ltb k (length ms) ≡ v
        → cond v (cond (cornered ok ks (get_or ms k (0, 0))) None (Some (Unanswered i side k))) (Some (NoSuchMove i)) ≡ cond v (cond (cornered ko ks (get_or ms k (0, 0))) None (Some (Unanswered i side k))) (Some (NoSuchMove i))
    go true e = ap (λ v. cond (not v) None (Some (Unanswered i side k))) (answered_same n2 (λ x y. not (ok x y)) (λ x y. not (ko x y)) (get_or ms k (0, 0)) ks b
        (λ y l. ap not (h (get_or ms k (0, 0)).1 y (All-get_or (Sound n1) ms k (0, 0) (ltb-true k (length ms) e) a).1 l)))
    go false e = refl

module _ (M N : Lts) (lM : Lawful M) (lN : Lawful N) (ok ko : ℕ → ℕ → Bool) (h : (x y : ℕ) → x < M.n → y < N.n → ok x y ≡ ko x y) where
  row_same : (i : ℕ) (r : DifferentRow) → different_row_fault M N ok i r ≡ different_row_fault M N ko i r
  row_same i r =
      let left = named_same M.n N.n ok ko i 0 r.k (M.moves r.left) (N.moves r.right) (lM.sound r.left) (lN.sound r.right) h in
      let right = named_same N.n M.n (λ y x. ok x y) (λ y x. ko x y) i 1 r.k (N.moves r.right) (M.moves r.left) (lN.sound r.right) (lM.sound r.left) (λ y x ly lx. h x y lx ly) in
      ap (λ v. cond (ltb r.left M.n && ltb r.right N.n) v (Some (NoSuchState i)))
      (ap (λ v. cond (eqb r.side 0) v (cond (eqb r.side 1) (named_fault (λ y x. ok x y) (N.moves r.right) (M.moves r.left) i 1 r.k) (Some (NoSuchMove i)))) left
      ∙ ap (λ v. cond (eqb r.side 0) (named_fault ko (M.moves r.left) (N.moves r.right) i 0 r.k) (cond (eqb r.side 1) v (Some (NoSuchMove i)))) right)

-- the bitmap of the pairs of the first i rows serves as well as the rows
pub gathered_row : (rule : Layering) (M N : Lts) → Lawful M → Lawful N → (m1 m2 : ℕ) → m1 ≡ M.n → m2 ≡ N.n → (words : List ℕ) (rows : List DifferentRow) (i : ℕ) (r : DifferentRow) → Gathered M.n N.n (λ x y. false) words (map pair_of (take i rows))
    → different_row_fault (shown rule M) (shown rule N) (pair_bit m1 m2 words) i r ≡ different_row_fault (shown rule M) (shown rule N) (earlier rows i) i r
gathered_row rule M N lM lN m1 m2 e f words rows i r h = row_same (shown rule M) (shown rule N) (shown_lawful rule M lM) (shown_lawful rule N lN) (pair_bit m1 m2 words) (earlier rows i) (λ x y lx ly.
    ap (λ v. pair_bit v m2 words x y) e ∙ ap (λ v. pair_bit M.n v words x y) f ∙ h x y
    ∙ ap (λ v. v && earlier rows i x y) (and_from (ltb x M.n) (ltb y N.n) (lt-ltb x M.n lx) (lt-ltb y N.n ly))) i r
