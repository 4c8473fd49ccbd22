-- Equality is a congruence: equal parts make equal wholes, whatever the operator's actions and channels. Sum and parallel number
-- their states by those of their parts, so there the starts must be states and transitions must lead from states to states; the
-- right part of a sum may number its states as it likes.
use Rattle.std.specs.Prelude.{ℕ, ◌+◌, ◌*◌, ◌<◌}
use Rattle.theory.specs.Systems.{Lts}
use Rattle.theory.specs.Operators.{prefix, sum, parallel, restrict, rename, raise, lower}
use Rattle.theory.specs.Bisimulations.{Equal}
use Rattle.theory.specs.Equivalence.{InRange}

-- s is a state of M, and so is what can be reached from a state
pub record Within (M : Lts) (s : ℕ) : Type 0 where
  pub state : s < M.n
  pub range : InRange M

abbrev pub PrefixCongruence : Type 0
PrefixCongruence = (a : ℕ) (M N : Lts) (p q : ℕ) → Equal M N p q → Equal (prefix a p M) (prefix a q N) 0 0

abbrev pub SumCongruence : Type 0
SumCongruence = (M M' N N' : Lts) (p p' q q' : ℕ) → Within M p → Within M' p' → Equal M M' p p' → Equal N N' q q' →
    Equal (sum p q M N) (sum p' q' M' N') 0 0

abbrev pub ParallelCongruence : Type 0
ParallelCongruence = (M M' N N' : Lts) (s s' t t' : ℕ) → Within M s → Within M' s' → Within N t → Within N' t' → Equal M M' s s' → Equal N N' t t' →
    Equal (parallel M N) (parallel M' N') (s * N.n + t) (s' * N'.n + t')

abbrev pub RestrictCongruence : Type 0
RestrictCongruence = (first second : ℕ) (M N : Lts) (s t : ℕ) → Equal M N s t → Equal (restrict first second M) (restrict first second N) s t

abbrev pub RenameCongruence : Type 0
RenameCongruence = (class from to : ℕ) (M N : Lts) (s t : ℕ) → Equal M N s t → Equal (rename class from to M) (rename class from to N) s t

abbrev pub RaiseCongruence : Type 0
RaiseCongruence = (first second : ℕ) (M N : Lts) (s t : ℕ) → Equal M N s t → Equal (raise first second M) (raise first second N) s t

abbrev pub LowerCongruence : Type 0
LowerCongruence = (first second : ℕ) (M N : Lts) (s t : ℕ) → Equal M N s t → Equal (lower first second M) (lower first second N) s t
