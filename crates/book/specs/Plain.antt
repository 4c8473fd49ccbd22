-- The plain book: sixteen sockets and three counts, and what each call does to them. It is fed the arguments of the calls, and
-- no answers. A call that is refused leaves it as it is.
use Rattle.std.specs.Prelude.{◌≡◌, ℕ, ◌+◌, ◌-◌, Bool, true, false, cond, ◌&&◌, List, [], ◌∷◌, replicate, Some, None, Option, ◌==◌, nat_le, nat_lt, slice_index_or, slice_set}
use Rattle.theory.specs.Systems.{Lts}
use Rattle.theory.specs.Layers.{standing}
use Rattle.certificates.specs.declared.rows.EqualRow.{EqualRow}
use Rattle.certificates.specs.EqualSheets.{AcceptedEqual}
use Rattle.book.specs.declared.socket.Change.{Change}
use Rattle.book.specs.declared.socket.Holding.{Holding}
use Rattle.book.specs.declared.fault.BookFault.{BookFault}
use Rattle.book.specs.declared.fault.BookFault.TheVariants.{NoSocket, NoState, Occupied, Vacant, ChangeOpen, Full}

pub record Plain : Type 0 where
  pub sockets : List (Option Holding)
  pub proposed : ℕ
  pub taken : ℕ
  pub dropped : ℕ

abbrev pub blank : Plain
blank = record { sockets = replicate 16 None; proposed = 0; taken = 0; dropped = 0 }

-- The sockets have the numbers 1 to 16.
abbrev pub socket_number : ℕ → Bool
socket_number i = nat_le 1 i && nat_le i 16

-- what the socket i holds
abbrev pub socket_in : List (Option Holding) → ℕ → Option Holding
socket_in xs i = cond (socket_number i) (slice_index_or xs (i - 1) None) None

abbrev pub at : Plain → ℕ → Option Holding
at b i = socket_in b.sockets i

abbrev pub with_socket : List (Option Holding) → ℕ → Option Holding → List (Option Holding)
with_socket xs i x = slice_set xs (i - 1) x

-- what is left of a book by a call that may be refused
abbrev pub unless : Option BookFault → Plain → Plain → Plain
unless None before after = after
unless (Some f) before after = before

-- Enter: is there such a socket, and such a state, and is the socket empty? The state becomes its first and its current part.
abbrev pub empty_fault : Option Holding → ℕ → Option BookFault
empty_fault None i = None
empty_fault (Some h) i = Some (Occupied i)

abbrev pub enter_fault : ℕ → Plain → ℕ → ℕ → Option BookFault
enter_fault n b i s = cond (socket_number i) (cond (nat_lt s n) (empty_fault (at b i) i) (Some (NoState i))) (Some (NoSocket i))

abbrev pub filled : ℕ → Option Holding
filled s = Some (record { first = s; current = s; change = None })

abbrev pub entered : ℕ → Plain → ℕ → ℕ → Plain
entered n b i s = unless (enter_fault n b i s) b
    (record { sockets = with_socket b.sockets i (filled s); proposed = b.proposed; taken = b.taken; dropped = b.dropped })

-- Propose: is there such a socket, and such a state, is the socket filled, is no change open there, and were fewer than 65535
-- proposed? The change is opened with the next number, not yet proved.
abbrev pub closed_fault : Option Change → ℕ → ℕ → Option BookFault
closed_fault (Some c) i count = Some (ChangeOpen i)
closed_fault None i count = cond (nat_lt count 65535) None (Some (Full i))

abbrev pub free_fault : Option Holding → ℕ → ℕ → Option BookFault
free_fault None i count = Some (Vacant i)
free_fault (Some h) i count = closed_fault h.change i count

abbrev pub propose_fault : ℕ → Plain → ℕ → ℕ → Option BookFault
propose_fault n b i s = cond (socket_number i) (cond (nat_lt s n) (free_fault (at b i) i b.proposed) (Some (NoState i))) (Some (NoSocket i))

abbrev pub opened : Option Holding → ℕ → ℕ → Option Holding
opened None s k = None
opened (Some h) s k = Some (record { first = h.first; current = h.current; change = Some (record { state = s; number = k; proved = false }) })

abbrev pub with_proposed : ℕ → Plain → ℕ → ℕ → Plain
with_proposed n b i s = unless (propose_fault n b i s) b
    (record { sockets = with_socket b.sockets i (opened (at b i) s (b.proposed + 1)); proposed = b.proposed + 1; taken = b.taken; dropped = b.dropped })

-- The change of a slip is open if the slip's socket has an open change with the slip's number. A slip is these two numbers,
-- whichever book gave it.
abbrev pub numbered : Option Change → ℕ → Option Change
numbered None k = None
numbered (Some c) k = cond (c.number == k) (Some c) None

abbrev pub change_in : Option Holding → ℕ → Option Change
change_in None k = None
change_in (Some h) k = numbered h.change k

abbrev pub current_in : Option Holding → ℕ
current_in None = 0
current_in (Some h) = h.current

abbrev pub first_in : Option Holding → ℕ
first_in None = 0
first_in (Some h) = h.first

-- the sheet is accepted for the current part and the state that the change c proposes
abbrev pub Accepts : Lts → Plain → ℕ → Change → List EqualRow → Type 0
Accepts M b i c rows = AcceptedEqual (standing M) (standing M) rows (current_in (at b i)) c.state

-- Prove: if the slip's change is open and the sheet is accepted, the change is proved.
abbrev pub marked : Option Holding → Change → Option Holding
marked None c = None
marked (Some h) c = Some (record { first = h.first; current = h.current; change = Some (record { state = c.state; number = c.number; proved = true }) })

abbrev pub with_proof : Plain → ℕ → Change → Plain
with_proof b i c = record { sockets = with_socket b.sockets i (marked (at b i) c); proposed = b.proposed; taken = b.taken; dropped = b.dropped }

pub data Proves (M : Lts) (b : Plain) (i k : ℕ) (rows : List EqualRow) (after : Plain) : Type 0 where
  not_open : change_in (at b i) k ≡ None → after ≡ b → Proves M b i k rows after
  accepted : (c : Change) → change_in (at b i) k ≡ Some c → Accepts M b i c rows → after ≡ with_proof b i c → Proves M b i k rows after
  not_accepted : (c : Change) → change_in (at b i) k ≡ Some c → (Accepts M b i c rows → ⊥) → after ≡ b → Proves M b i k rows after

-- Close: ends the slip's change if it is open. If it is proved, the state proposed becomes the current part and one more was
-- taken, and if not, one more was dropped.
-- the socket with another current part, and no open change
abbrev pub with_part : Option Holding → ℕ → Option Holding
with_part None s = None
with_part (Some h) s = Some (record { first = h.first; current = s; change = None })

abbrev pub ended : Plain → ℕ → Change → Bool → Plain
ended b i c true = record { sockets = with_socket b.sockets i (with_part (at b i) c.state); proposed = b.proposed; taken = b.taken + 1; dropped = b.dropped }
ended b i c false = record { sockets = with_socket b.sockets i (with_part (at b i) (current_in (at b i))); proposed = b.proposed; taken = b.taken; dropped = b.dropped + 1 }

abbrev pub closing : Plain → ℕ → Option Change → Plain
closing b i None = b
closing b i (Some c) = ended b i c c.proved

abbrev pub closed : Plain → ℕ → ℕ → Plain
closed b i k = closing b i (change_in (at b i) k)

-- The calls, each with its arguments.
pub data Call : Type 0 where
  enter : ℕ → ℕ → Call
  propose : ℕ → ℕ → Call
  prove : ℕ → ℕ → List EqualRow → Call
  close : ℕ → ℕ → Call

-- what one call does
abbrev pub Step : Lts → Plain → Call → Plain → Type 0
Step M b (enter i s) after = after ≡ entered M.n b i s
Step M b (propose i s) after = after ≡ with_proposed M.n b i s
Step M b (prove i k rows) after = Proves M b i k rows after
Step M b (close i k) after = after ≡ closed b i k

-- what a list of calls does, one after another
abbrev pub Run : Lts → Plain → List Call → Plain → Type 0
Run M b [] after = after ≡ b
Run M b (c ∷ cs) after = (next : Plain) × Step M b c next × Run M next cs after
