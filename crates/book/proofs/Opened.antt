-- What the socket of an open change is in the plain book.
use Rattle.std.proofs.Common.{◌≡◌, ℕ, ◌-◌, true, eqb, get_or, set, Some, None, Option, sym, ap, ◌∙◌, eq-eqb}
use Rattle.book.specs.declared.socket.Change.{Change}
use Rattle.book.specs.declared.book.pending.Pending.{Pending}
use Rattle.book.specs.Plain.{Plain, at, change_in, current_in, with_proof}
use Rattle.book.specs.Openings.{FoundOpen}

module _ (b : Plain) (i k : ℕ) (p : Pending) (f : FoundOpen b.sockets i k p) where
  held_at : get_or b.sockets p.index None ≡ Some (record { first = p.held.first; current = p.held.current; change = Some p.change })
  held_at = f.filled ∙ ap (λ (c : Option Change). Some (record { first = p.held.first; current = p.held.current; change = c })) f.change

  at_is : at b i ≡ Some (record { first = p.held.first; current = p.held.current; change = Some p.change })
  at_is =
      let t = f.number in
      let e : i - 1 ≡ p.index = sym f.is in
      rw (t, e) held_at

  pub change_is : change_in (at b i) k ≡ Some p.change
  change_is =
      let t : eqb p.change.number k ≡ true = eq-eqb p.change.number k f.named in
      rw (at_is, t)

  pub current_is : current_in (at b i) ≡ p.held.current
  current_is = ap current_in at_is

  pub proof_is : with_proof b i p.change ≡ record { sockets = set b.sockets p.index (Some (record { first = p.held.first; current = p.held.current; change = Some (record { state = p.change.state; number = p.change.number; proved = true }) })); proposed = b.proposed; taken = b.taken; dropped = b.dropped }
  proof_is =
      let e : i - 1 ≡ p.index = sym f.is in
      rw (at_is, e)
