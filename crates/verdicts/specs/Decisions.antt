-- What a whole comparison answers, and what it leaves in the cells.
use Rattle.std.specs.Prelude.{◌≡◌, ℕ, suc, ◌+◌, ◌*◌, ◌<◌, ◌≤◌, cond, ◌&&◌, ◌↔◌, List, length, Some, None, Ok, Err, Option, Result, nat_le, nat_lt, slice_index}
use Rattle.theory.specs.Systems.{Lts}
use Rattle.theory.specs.Layers.{Layering, shown}
use Rattle.theory.specs.Bisimulations.{EqualUnder}
use Rattle.refinement.specs.Rounds.{StruckIn, Rounds}
use Rattle.refinement.specs.Runs.{SettledByRun}
use Rattle.comparison.specs.Comparisons.{begin_fault}
use Rattle.comparison.specs.declared.comparison.Settled.{Settled}
use Rattle.comparison.specs.declared.comparison.Refusal.{Refusal}
use Rattle.comparison.specs.declared.comparison.Refusal.TheVariants.{Outsize, FewCells, NoSuchState}
use Rattle.comparison.specs.declared.comparison.Verdict.{Verdict}
use Rattle.comparison.specs.declared.comparison.Verdict.TheVariants.{Equal, Different}
use Rattle.verdicts.specs.declared.decide.Decision.{Decision}

-- Asked: is neither system outsize, are there cells for all pairs, do both states exist.
abbrev pub decide_fault : ℕ → ℕ → ℕ → ℕ → ℕ → Option Refusal
decide_fault n1 n2 len s t = cond (nat_lt 0 n1 && nat_lt 0 n2) (cond (nat_le (n1 * n2) len) (cond (nat_lt s n1 && nat_lt t n2) None (Some NoSuchState)) (Some FewCells)) (Some Outsize)

-- The verdict is `Equal` exactly if some bisimulation of what the layer shows holds both states, and `Different v` exactly if
-- round v of the refinement strikes them.
abbrev pub TrueOf : Layering → Lts → Lts → ℕ → ℕ → Verdict → Type 0
TrueOf y A B s t verdict = ((verdict ≡ Equal) ↔ EqualUnder y A B s t) × ((v : ℕ) → (verdict ≡ Different v) ↔ StruckIn (shown y A) (shown y B) v s t)

-- The sweeps made are the rounds of the refinement, of which the last strikes nothing.
abbrev pub Decided : Layering → Lts → Lts → ℕ → ℕ → ℕ → Result Decision Refusal → Type 0
Decided y A B len s t (Ok d) = (decide_fault A.n B.n len s t ≡ None) × TrueOf y A B s t d.verdict × Rounds (shown y A) (shown y B) d.sweeps × (d.sweeps ≤ A.n * B.n + 1)
Decided y A B len s t (Err f) = decide_fault A.n B.n len s t ≡ Some f

-- The cells past those of the pairs are as they were.
abbrev pub Past : ℕ → List ℕ → List ℕ → Type 0
Past size old new = (i : ℕ) → size ≤ i → slice_index new i ≡ slice_index old i

-- Each pair's cell is 0 exactly if the pair is equal under the layer, and k + 1 exactly if round k + 1 strikes it.
abbrev pub Final : Layering → Lts → Lts → List ℕ → Type 0
Final y A B cells = (s t : ℕ) → s < A.n → t < B.n → ((slice_index cells (s * B.n + t) ≡ 0) ↔ EqualUnder y A B s t) × ((k : ℕ) → (slice_index cells (s * B.n + t) ≡ suc k) ↔ StruckIn (shown y A) (shown y B) (suc k) s t)

-- A refusal writes no cell. Else the comparison is made to its end.
abbrev pub LeftBy : Option Refusal → Layering → Lts → Lts → List ℕ → List ℕ → Type 0
LeftBy (Some f) y A B old new = (i : ℕ) → slice_index new i ≡ slice_index old i
LeftBy None y A B old new = Final y A B new × Past (A.n * B.n) old new

abbrev pub DecidedCells : Layering → Lts → Lts → List ℕ → ℕ → ℕ → List ℕ → Type 0
DecidedCells y A B old s t new = LeftBy (decide_fault A.n B.n (length old) s t) y A B old new

-- A settled comparison and the cells come from a run on M and N.
abbrev pub EndsRun : {Y : Type 0} → Lts → Lts → Settled Y → List ℕ → Type 0
EndsRun M N o cells = SettledByRun M N o.progress.n1 o.progress.n2 o.progress.made cells

-- A comparison that is settled in one call comes from a run on M and N, unless begin refuses it.
abbrev pub Settles : {Y : Type 0} → Lts → Lts → ℕ → Result (Settled Y) Refusal → List ℕ → Type 0
Settles M N len (Ok o) cells = (begin_fault M.n N.n len ≡ None) × EndsRun M N o cells
Settles M N len (Err f) cells = begin_fault M.n N.n len ≡ Some f
