-- The worked examples, each below its expressions: _ marks a prioritised action and ' a co-name, i is the inner action, 0 is nil,
-- \{..} restricts, ^{..} raises and ~{..} lowers.
use Rattle.std.specs.Prelude.{ℕ, ◌+◌, ◌*◌, ◌^◌, List, [], ◌∷◌}
use Rattle.terms.specs.Terms.{Term, Nil, Prefix, Sum, Parallel, Restrict, Raise, Lower}
use Rattle.worked_examples.specs.Claims.{Claim, Alike, Apart, Starts}

-- channels
abbrev pub a : ℕ
a = 1

abbrev pub b : ℕ
b = 2

abbrev pub c : ℕ
c = 3

-- codes of actions: the name on a channel, the inner action, the co-name of a name, and an action made prioritised
abbrev pub name : ℕ → ℕ
name channel = 4 * channel

abbrev pub inner : ℕ
inner = 0

abbrev pub co : ℕ → ℕ
co action = action + 2

abbrev pub prior : ℕ → ℕ
prior action = action + 1

-- words of channels
abbrev pub only : ℕ → ℕ
only channel = 2 ^ channel

abbrev pub none : ℕ
none = 0

-- an action, and then nothing
abbrev pub does : ℕ → Term
does action = Prefix action Nil

abbrev pub examples : List Claim
examples =
    -- a.0 + i_.0 and i_.0: the prioritised inner action pre-empts what is not prioritised
    Alike (Sum (does (name a)) (does (prior inner))) (does (prior inner))
    -- a.0 + b_.0 and b_.0: a visible action pre-empts nothing,
    ∷ Apart (Sum (does (name a)) (does (prior (name b)))) (does (prior (name b))) 1
    -- (a.0 + b_.0)\{b_} and (b_.0)\{b_}: and restricted it does not either
    ∷ Apart (Restrict none (only b) (Sum (does (name a)) (does (prior (name b))))) (Restrict none (only b) (does (prior (name b)))) 1
    -- (a_.0 | a_'.0)\{a_} and i_.0: what synchronises is a prioritised inner action
    ∷ Alike (Restrict none (only a) (Parallel (does (prior (name a))) (does (co (prior (name a)))))) (does (prior inner))
    -- (a.0 + i_.0)^{a} and i_.0: in an impatient state nothing is raised,
    ∷ Alike (Raise (only a) none (Sum (does (name a)) (does (prior inner)))) (does (prior inner))
    -- (a.0)^{a} and a_.0: in a patient state it is
    ∷ Alike (Raise (only a) none (does (name a))) (does (prior (name a)))
    -- (a_.0 + i_.0)~{a} and a_.0 + i_.0: in an impatient state nothing is lowered
    ∷ Alike (Lower (only a) none (Sum (does (prior (name a))) (does (prior inner)))) (Sum (does (prior (name a))) (does (prior inner)))
    -- a.(b.0 + c.0) and a.b.0 + a.c.0: it matters when a choice is made
    ∷ Apart (Prefix (name a) (Sum (does (name b)) (does (name c)))) (Sum (Prefix (name a) (does (name b))) (Prefix (name a) (does (name c)))) 2
    -- a.0 | a_'.0: actions of different classes do not synchronise,
    ∷ Starts (Parallel (does (name a)) (does (co (prior (name a))))) ((4, 2) ∷ (7, 1) ∷ [])
    -- i.0 | i.0: and inner actions do not either
    ∷ Starts (Parallel (does inner) (does inner)) ((0, 2) ∷ (0, 1) ∷ [])
    ∷ []
