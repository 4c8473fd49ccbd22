-- Every run from a blank book keeps in each socket a first and a current part that are equal states, and, where a change is
-- proved, a state proposed that is equal to the current one.
use Rattle.std.proofs.Common.{◌≡◌, ℕ, zero, suc, ◌+◌, ◌-◌, ◌<◌, Bool, true, false, cond, eqb, ltb, List, [], ◌∷◌, get_or, replicate, Some, None, Option, is_some, sym, refl, subst}
use Rattle.std.specs.List.{AllByRecursion}
use Rattle.std.proofs.ByRecursion.{All-set}
use Rattle.std.proofs.lemmas.Bool.{ltb-true}
use Rattle.theory.specs.Systems.{Lts, Lawful}
use Rattle.theory.specs.Layers.{standing, standing_layer}
use Rattle.theory.specs.Bisimulations.{Equal}
use Rattle.theory.proofs.Equivalence.{lawful_in_range, reflexive, symmetric, transitive}
use Rattle.theory.proofs.Laws.{shown_lawful}
use Rattle.congruence.specs.Expressions.{Exchangeable}
use Rattle.congruence.proofs.Expressions.{exchange}
use Rattle.certificates.specs.declared.rows.EqualRow.{EqualRow}
use Rattle.certificates.specs.EqualSheets.{EqualSheets}
use Rattle.book.specs.declared.socket.Change.{Change}
use Rattle.book.specs.declared.socket.Holding.{Holding}
use Rattle.book.specs.declared.fault.BookFault.{BookFault}
use Rattle.book.specs.declared.fault.BookFault.TheVariants.{NoSocket, NoState}
use Rattle.book.specs.Plain.{Plain, blank, socket_number, at, with_socket, unless, empty_fault, enter_fault, filled, entered, free_fault, propose_fault, opened, with_proposed, numbered, change_in, current_in, first_in, Accepts, marked, Proves, not_open, accepted, not_accepted, with_part, ended, closing, closed, Call, enter, propose, prove, close, Step, Run}
use Rattle.book.specs.Promises.{KeepsDesigns, RunsKeepDesigns, current_part, first_part}

module _ (M : Lts) where
  abbrev KeptChange : ℕ → Option Change → Type 0
  KeptChange current None = Unit {0}
  KeptChange current (Some c) = (c.state < M.n) × (c.proved ≡ true → Equal M M current c.state)

  abbrev Kept : Option Holding → Type 0
  Kept None = Unit {0}
  Kept (Some h) = (h.first < M.n) × (h.current < M.n) × Equal M M h.first h.current × KeptChange h.current h.change

  abbrev AllKept : Plain → Type 0
  AllKept b = AllByRecursion Kept b.sockets

  all_at : (xs : List (Option Holding)) (i : ℕ) → AllByRecursion Kept xs → Kept (get_or xs i None)
  all_at [] i h = tt
  all_at (x ∷ xs) zero h = h.0
  all_at (x ∷ xs) (suc i) h = all_at xs i h.1

  kept_at : (b : Plain) (i : ℕ) → AllKept b → Kept (at b i)
  kept_at b i h = go (socket_number i)
    where
      go : (t : Bool) → Kept (cond t (get_or b.sockets (i - 1) None) None)
      go true = all_at b.sockets (i - 1) h
      go false = tt

  written : (xs : List (Option Holding)) (i : ℕ) (x : Option Holding) → AllByRecursion Kept xs → Kept x → AllByRecursion Kept (with_socket xs i x)
  written xs i x h k = All-set Kept xs (i - 1) x k h

  -- a call that is not refused has passed its questions
  passes : (t u : Bool) (o : Option BookFault) (f g : BookFault) → cond t (cond u o (Some f)) (Some g) ≡ None → u ≡ true
  passes true true o f g e = refl
  passes true false o f g e = cc
  passes false u o f g e = cc

  not_refused : (o : Option BookFault) (b c : Plain) → AllKept b → (o ≡ None → AllKept c) → AllKept (unless o b c)
  not_refused None b c h k = k refl
  not_refused (Some f) b c h k = h

  enter_keeps : (b : Plain) (i s : ℕ) → AllKept b → AllKept (entered M.n b i s)
  enter_keeps b i s h = not_refused (enter_fault M.n b i s) b _ h (λ e.
      let l : s < M.n = ltb-true s M.n (passes (socket_number i) (ltb s M.n) (empty_fault (at b i) i) (NoState i) (NoSocket i) e) in
      written b.sockets i (filled s) h (l, l, reflexive standing_layer M s, tt))

  opened_kept : (x : Option Holding) (s k : ℕ) → s < M.n → Kept x → Kept (opened x s k)
  opened_kept None s k l h = tt
  opened_kept (Some x) s k l h = (h.0, h.1, h.2, (l, λ e. absurd (cc)))

  propose_keeps : (b : Plain) (i s : ℕ) → AllKept b → AllKept (with_proposed M.n b i s)
  propose_keeps b i s h = not_refused (propose_fault M.n b i s) b _ h (λ e.
      let l : s < M.n = ltb-true s M.n (passes (socket_number i) (ltb s M.n) (free_fault (at b i) i b.proposed) (NoState i) (NoSocket i) e) in
      written b.sockets i (opened (at b i) s (b.proposed + 1)) h (opened_kept (at b i) s (b.proposed + 1) l (kept_at b i h)))

  marked_kept : (x : Option Holding) (c : Change) → c.state < M.n → Equal M M (current_in x) c.state → Kept x → Kept (marked x c)
  marked_kept None c l e h = tt
  marked_kept (Some x) c l e h = (h.0, h.1, h.2, (l, λ p. e))

  module _ (law : Lawful M) (sheets : EqualSheets) where
    accepts_equal : (b : Plain) (i : ℕ) (c : Change) (rows : List EqualRow) → Accepts M b i c rows → (c.state < M.n) × Equal M M (current_in (at b i)) c.state
    accepts_equal b i c rows a =
        let low = a.exist (current_in (at b i)) c.state a.asked in
        let lawful = shown_lawful standing_layer M law in
        (low.1, (sheets (standing M) (standing M) lawful lawful (current_in (at b i)) c.state low.0 low.1).0 (rows, a))

    prove_keeps : (b after : Plain) (i k : ℕ) (rows : List EqualRow) → Proves M b i k rows after → AllKept b → AllKept after
    prove_keeps b after i k rows (not_open e f) h = subst AllKept (sym f) h
    prove_keeps b after i k rows (accepted c e a f) h =
        let w = accepts_equal b i c rows a in
        subst AllKept (sym f) (written b.sockets i (marked (at b i) c) h (marked_kept (at b i) c w.0 w.1 (kept_at b i h)))
    prove_keeps b after i k rows (not_accepted c e a f) h = subst AllKept (sym f) h

    numbered_is : (o : Option Change) (k : ℕ) (c : Change) → numbered o k ≡ Some c → o ≡ Some c
    numbered_is None k c e = e
    numbered_is (Some d) k c e = go (eqb d.number k) e
      where
        go : (t : Bool) → cond t (Some d) None ≡ Some c → Some d ≡ Some c
        go true e = e
        go false e = cc

    taken_kept : (x : Option Holding) (k : ℕ) (c : Change) → change_in x k ≡ Some c → c.proved ≡ true → Kept x → Kept (with_part x c.state)
    taken_kept None k c e p h = tt
    taken_kept (Some x) k c e p h =
        let change : KeptChange x.current (Some c) = subst (KeptChange x.current) (numbered_is x.change k c e) h.3 in
        (h.0, change.0, transitive standing_layer M M M (lawful_in_range M law) x.first x.current c.state h.1 h.2 (change.1 p), tt)

    dropped_kept : (x : Option Holding) → Kept x → Kept (with_part x (current_in x))
    dropped_kept None h = tt
    dropped_kept (Some x) h = (h.0, h.1, h.2, tt)

    ended_keeps : (b : Plain) (i k : ℕ) (c : Change) → change_in (at b i) k ≡ Some c → AllKept b → (t : Bool) → c.proved ≡ t → AllKept (ended b i c t)
    ended_keeps b i k c e h true p = written b.sockets i (with_part (at b i) c.state) h (taken_kept (at b i) k c e p (kept_at b i h))
    ended_keeps b i k c e h false p = written b.sockets i (with_part (at b i) (current_in (at b i))) h (dropped_kept (at b i) (kept_at b i h))

    close_keeps : (b : Plain) (i k : ℕ) → AllKept b → AllKept (closed b i k)
    close_keeps b i k h = go (change_in (at b i) k) refl
      where
        go : (o : Option Change) → change_in (at b i) k ≡ o → AllKept (closing b i o)
        go None e = h
        go (Some c) e = ended_keeps b i k c e h c.proved refl

    step_keeps : (c : Call) (b after : Plain) → Step M b c after → AllKept b → AllKept after
    step_keeps (enter i s) b after e h = subst AllKept (sym e) (enter_keeps b i s h)
    step_keeps (propose i s) b after e h = subst AllKept (sym e) (propose_keeps b i s h)
    step_keeps (prove i k rows) b after p h = prove_keeps b after i k rows p h
    step_keeps (close i k) b after e h = subst AllKept (sym e) (close_keeps b i k h)

    run_keeps : (calls : List Call) (b after : Plain) → Run M b calls after → AllKept b → AllKept after
    run_keeps [] b after e h = subst AllKept (sym e) h
    run_keeps (c ∷ cs) b after r h = run_keeps cs r.0 after r.2 (step_keeps c b r.0 r.1 h)

    filled_parts : (x : Option Holding) → is_some x ≡ true → Kept x → Exchangeable M (current_in x) (first_in x)
    filled_parts None e h = absurd (cc)
    filled_parts (Some x) e h = record { old = h.1; new = h.0; equal = symmetric standing_layer M M x.first x.current h.2 }

    kept_designs : (b : Plain) → AllKept b → KeepsDesigns M b
    kept_designs b h e f = exchange M (lawful_in_range M law) (current_part b) (first_part b) e (λ i u. filled_parts (at b i) (f i u) (kept_at b i h))

all_empty : (M : Lts) (n : ℕ) → AllByRecursion (Kept M) (replicate n None)
all_empty M zero = tt
all_empty M (suc n) = (tt, all_empty M n)

pub runs_keep_designs : EqualSheets → RunsKeepDesigns
runs_keep_designs sheets M law calls b r = kept_designs M law sheets b (run_keeps M law sheets calls blank b r (all_empty M 16))
