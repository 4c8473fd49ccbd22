-- What the writers write over a settled run is accepted.
use Rattle.std.proofs.Common.{◌≡◌, ℕ, ◌+◌, ◌*◌, ◌<◌, ◌≤◌, false, cond, leb, List, length, take, Some, None, Ok, Err, Option, Result, sym, refl, ap, ◌∙◌, subst, inl, inr, arith}
use Rattle.std.proofs.lemmas.Option.{none-some}
use Rattle.std.proofs.lemmas.Bool.Decides.{nat_tests}
use Rattle.std.proofs.lemmas.Bool.{cases_lt, le-leb, eq-eqb}
use Rattle.theory.specs.Systems.{Lts, Lawful}
use Rattle.theory.specs.Bisimulations.{Bisimilar}
use Rattle.refinement.specs.Runs.{Run, SettledByRun, VerdictLaw}
use Rattle.refinement.proofs.Ranges.{lawful_in_range}
use Rattle.refinement.proofs.Rounds.{struck_exact}
use Rattle.refinement.proofs.Runs.{runs_exact}
use Rattle.comparison.specs.declared.comparison.progress.Progress.{Progress}
use Rattle.comparison.specs.declared.comparison.Refusal.{Refusal}
use Rattle.comparison.specs.Comparisons.{verdict_of, judged, verdict_fault, verdict_answer}
use Rattle.comparison.proofs.Verdicts.{asked_inside}
use Rattle.comparison.specs.declared.comparison.Verdict.{Verdict}
use Rattle.comparison.specs.declared.comparison.Verdict.TheVariants.{Equal, Different}
use Rattle.certificates.specs.declared.rows.EqualRow.{EqualRow}
use Rattle.certificates.specs.declared.rows.DifferentRow.{DifferentRow}
use Rattle.certificates.specs.EqualSheets.{AcceptedEqual}
use Rattle.certificates.specs.Listings.{is_zero, equal_listing, different_numbers, DifferentListing}
use Rattle.certificates.proofs.EqualListings.{listing_accepted, number_below}
use Rattle.certificates.proofs.DifferentListings.{different_listing_accepted}
use Rattle.certificates.proofs.Cells.{Tells, zeros_closed, struck_backed}
use Rattle.writers.specs.declared.refusal.WriteRefusal.{WriteRefusal}
use Rattle.writers.specs.declared.refusal.WriteRefusal.TheVariants.{NoMove, FewRows}
use Rattle.writers.specs.Writes.{cell_of, lacks_move, equal_write_fault, different_write_fault, Written, EqualWritten, DifferentWritten}
use Rattle.writers.proofs.Entries.{has_all}

-- the cells of a settled run tell the rounds
pub run_tells : (M N : Lts) → Lawful M → Lawful N → (made : ℕ) (cells : List ℕ) → Run M N false made cells → Tells M N (cell_of cells)
run_tells M N lM lN made cells run s t ls lt =
    let e = runs_exact M N (lawful_in_range M lM) (lawful_in_range N lN) made cells run s t ls lt in
    ((λ h. e.0.0 h), (λ k h. (e.1 k).0 h))

module _ (M N : Lts) (lM : Lawful M) (lN : Lawful N) (n1 n2 made : ℕ) (cells : List ℕ) (s t : ℕ) (verdict : Result Verdict Refusal)
    (law : VerdictLaw (Ok Equal) (λ v. Ok (Different v)) M N n1 n2 made cells s t verdict) where
  pub equal_law : (old new : List EqualRow) (r : Result ℕ WriteRefusal) → length new ≡ length old
      → Written (equal_write_fault verdict (length (equal_listing N.n (is_zero (cell_of cells)) (M.n * N.n))) (length old)) (λ list. list ≡ equal_listing N.n (is_zero (cell_of cells)) (M.n * N.n)) old new r
      → EqualWritten M N n1 n2 made cells s t new r
  equal_law old new (Err f) same w run ls lt b room =
      let count = length (equal_listing N.n (is_zero (cell_of cells)) (M.n * N.n)) in
      let eq = (law run ls lt).0.0.1 b in
      absurd (none-some f (sym (ap (λ v. equal_write_fault v count (length old)) eq ∙ ap (λ v. cond v None (Some FewRows)) (le-leb count (length old) (omega (arith, room, same)))) ∙ w.0))
  equal_law old new (Ok m) same w run ls lt b room =
      let tells = run_tells M N lM lN made cells run.3 in
      let zero = (runs_exact M N (lawful_in_range M lM) (lawful_in_range N lN) made cells run.3 s t ls lt).0.1 b in
      (m, refl, subst (λ list. AcceptedEqual M N list s t) (sym w.2) (listing_accepted M N lM lN (is_zero (cell_of cells)) (zeros_closed M N lM lN (cell_of cells) tells) s t ls lt (eq-eqb _ 0 zero)))

-- the listing, as it is found where the verdict is equal
pub equal_found : (verdict : Result Verdict Refusal) → verdict ≡ Ok Equal → (count len : ℕ) (Is : List EqualRow → Type 0) (old new : List EqualRow) (r : Result ℕ WriteRefusal)
    → Written (cond (leb count len) None (Some FewRows)) Is old new r → Written (equal_write_fault verdict count len) Is old new r
equal_found verdict e count len Is old new r w = subst (λ v. Written (equal_write_fault v count len) Is old new r) (sym e) w

module _ (M N : Lts) (lM : Lawful M) (lN : Lawful N) (n1 n2 made : ℕ) (cells : List ℕ) (s t : ℕ) (verdict : Result Verdict Refusal)
    (law : VerdictLaw (Ok Equal) (λ v. Ok (Different v)) M N n1 n2 made cells s t verdict) where
  struck_cell : SettledByRun M N n1 n2 made cells → s < M.n → t < N.n → (Bisimilar M N s t → ⊥) → 0 < cell_of cells (s * N.n + t)
  struck_cell run ls lt apart = elim (cases_lt 0 (cell_of cells (s * N.n + t))) [
    | inl p ↦ p
    | inr z ↦ absurd (apart ((run_tells M N lM lN made cells run.3 s t ls lt).0 (omega arith)))
  ]

  pub different_law : (old new : List DifferentRow) (r : Result ℕ WriteRefusal) → length new ≡ length old
      → Written (different_write_fault verdict (lacks_move M N (cell_of cells) (s * N.n + t)) (length (different_numbers (cell_of cells) (M.n * N.n) (s * N.n + t))) (length old)) (DifferentListing M N (cell_of cells) (s * N.n + t)) old new r
      → DifferentWritten M N n1 n2 made cells s t new r
  different_law old new (Err f) same w run ls lt apart room =
      let a = s * N.n + t in
      let count = length (different_numbers (cell_of cells) (M.n * N.n) a) in
      let pos = struck_cell run ls lt apart in
      let v = (struck_exact M N (lawful_in_range M lM) (lawful_in_range N lN) s t ls lt).1 apart in
      let eq = ((law run ls lt).0.1 v.0).1 v.1 in
      let all = has_all M N (cell_of cells) a (number_below M.n N.n s t ls lt) pos (struck_backed M N lM lN (cell_of cells) (run_tells M N lM lN made cells run.3)) in
      absurd (none-some f (sym (ap (λ u. different_write_fault u (lacks_move M N (cell_of cells) a) count (length old)) eq
      ∙ ap (λ b. cond b (Some NoMove) (cond (leb count (length old)) None (Some FewRows))) all
      ∙ ap (λ b. cond b None (Some FewRows)) (le-leb count (length old) (omega (arith, room, same)))) ∙ w.0))
  different_law old new (Ok m) same w run ls lt apart room =
      (m, refl, different_listing_accepted M N lM lN (cell_of cells) s t ls lt (struck_cell run ls lt apart) (take m new) w.2)

-- what is known where the verdict is different
pub different_verdict : (o : Progress) (n1 n2 : ℕ) (cells : List ℕ) (s t v : ℕ) → verdict_answer o n1 n2 cells s t ≡ Ok (Different v)
    → (n1 * n2 ≤ length cells) × (s < n1) × (t < n2) × (0 < cell_of cells (s * n2 + t))
different_verdict o n1 n2 cells s t v h = go (verdict_fault o n1 n2 (length cells) s t) refl h
  where
    go : (f : Option Refusal) → verdict_fault o n1 n2 (length cells) s t ≡ f → judged f (cell_of cells (s * n2 + t)) ≡ Ok (Different v)
        → (n1 * n2 ≤ length cells) × (s < n1) × (t < n2) × (0 < cell_of cells (s * n2 + t))
    go (Some f) e j = let z : ⊥ = grind arith in elim z [ ]
    go None e j = let p = asked_inside (o.n1, o.n2) n1 n2 (length cells) s t (sym e) in (p.0, p.1, p.2, struck (cell_of cells (s * n2 + t)) j)
      where
        struck : (c : ℕ) → ◌≡◌ {A = Result Verdict Refusal} (Ok (verdict_of c)) (Ok (Different v)) → 0 < c
        struck c k = grind (arith, nat_tests)

-- the listing, as it is found where the verdict is different
pub different_found : (M N : Lts) (cell : ℕ → ℕ) (verdict : Result Verdict Refusal) (v : ℕ) → verdict ≡ Ok (Different v) → (a b len : ℕ) → a ≡ b → (old new : List DifferentRow) (r : Result ℕ WriteRefusal)
    → Written (cond (lacks_move M N cell a) (Some NoMove) (cond (leb (length (different_numbers cell (M.n * N.n) a)) len) None (Some FewRows))) (DifferentListing M N cell a) old new r
    → Written (different_write_fault verdict (lacks_move M N cell b) (length (different_numbers cell (M.n * N.n) b)) len) (DifferentListing M N cell b) old new r
different_found M N cell verdict v e a b len ab old new r w =
    subst (λ u. Written (different_write_fault u (lacks_move M N cell b) (length (different_numbers cell (M.n * N.n) b)) len) (DifferentListing M N cell b) old new r) (sym e)
    (subst (λ k. Written (cond (lacks_move M N cell k) (Some NoMove) (cond (leb (length (different_numbers cell (M.n * N.n) k)) len) None (Some FewRows))) (DifferentListing M N cell k) old new r) ab w)
