-- What proving does to the plain book, and what it answers, by what the check of the sheet says.
use Rattle.std.proofs.Common.{◌≡◌, ℕ, true, List, set, Some, None, Err, Result, sym, refl, subst}
use Rattle.theory.specs.Systems.{Lts}
use Rattle.theory.specs.Layers.{standing}
use Rattle.certificates.specs.declared.rows.EqualRow.{EqualRow}
use Rattle.certificates.specs.declared.fault.SheetFault.{SheetFault}
use Rattle.certificates.specs.EqualSheets.{AcceptedEqual, RefusedEqual, equal_fault}
use Rattle.certificates.proofs.EqualTold.{equal_accepted, equal_refused}
use Rattle.book.specs.declared.book.pending.Pending.{Pending}
use Rattle.book.specs.declared.fault.BookFault.{BookFault}
use Rattle.book.specs.declared.fault.BookFault.TheVariants.{Sheet}
use Rattle.book.specs.Plain.{Plain, Proves, accepted, not_accepted}
use Rattle.book.specs.Openings.{FoundOpen}
use Rattle.book.specs.Views.{ProofAnswer}
use Rattle.book.proofs.Opened.{change_is, current_is, proof_is}

refused_not_accepted : (M N : Lts) (rows : List EqualRow) (s t : ℕ) (f : SheetFault) → RefusedEqual M N rows s t f → AcceptedEqual M N rows s t → ⊥
refused_not_accepted M N rows s t f r a =
    let p : equal_fault M N rows s t ≡ Some f = (equal_refused M N rows s t f).1 r in
    let q : equal_fault M N rows s t ≡ None = (equal_accepted M N rows s t).1 a in
    cc

module _ (M : Lts) (b : Plain) (i k : ℕ) (p : Pending) (f : FoundOpen b.sockets i k p) (rows : List EqualRow) where
  pub prove_accepted : AcceptedEqual (standing M) (standing M) rows p.held.current p.change.state
      → Proves M b i k rows (record { sockets = set b.sockets p.index (Some (record { first = p.held.first; current = p.held.current; change = Some (record { state = p.change.state; number = p.change.number; proved = true }) })); proposed = b.proposed; taken = b.taken; dropped = b.dropped })
  prove_accepted a =
      accepted p.change (change_is b i k p f) (subst (λ (s : ℕ). AcceptedEqual (standing M) (standing M) rows s p.change.state) (sym (current_is b i k p f)) a) (sym (proof_is b i k p f))

  module _ (g : SheetFault) (h : RefusedEqual (standing M) (standing M) rows p.held.current p.change.state g) where
    pub prove_refused : Proves M b i k rows b
    prove_refused =
        not_accepted p.change (change_is b i k p f)
        (λ a. refused_not_accepted (standing M) (standing M) rows p.held.current p.change.state g h
        (subst (λ (s : ℕ). AcceptedEqual (standing M) (standing M) rows s p.change.state) (current_is b i k p f) a))
        refl

    pub answer_refused : (r : Result (Unit {0}) BookFault) → r ≡ Err (Sheet g) → ProofAnswer M b i k rows r
    answer_refused r e = rw (e, change_is b i k p f, current_is b i k p f) (g, refl, h)
