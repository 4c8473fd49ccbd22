-- What a file of two designs is answered, case by case.
use Rattle.std.specs.Prelude.{◌≡◌, ℕ, ◌+◌, ◌*◌, ◌<◌, ◌≤◌, Bool, true, ◌↔◌, List, Some, None}
use Rattle.theory.specs.Bisimulations as bisimulations
use Rattle.theory.specs.Layers.{standing}
use Rattle.theory.specs.Designs.{Design, EqualDesigns}
use Rattle.refinement.specs.Rounds.{StruckIn, Rounds}
use Rattle.designs.specs.Nodes.{written}
use Rattle.designs.specs.Checks.{Passed}
use Rattle.designs.specs.Checks as checks
use Rattle.files.specs.Layouts.{first_nodes, second_nodes}
use Rattle.files.specs.Refusals.{file_fault}
use Rattle.files.specs.declared.refusal.ReadFault.{ReadFault}
use Rattle.files.specs.declared.refusal.ReadFault.TheVariants as reads
use Rattle.comparing.specs.Zeros.{passing}
use Rattle.comparing.specs.declared.answer.Answer.{Answer}
use Rattle.comparing.specs.declared.answer.Answer.TheVariants.{Equal, Different, Refused}
use Rattle.comparing.specs.declared.answer.FileFault.TheVariants.{File, First, Second, FewCells}
use Rattle.comparing.specs.declared.stop.Stop.{Stop}
use Rattle.comparing.specs.declared.stop.Stop.TheVariants.{Fault, Memory}

abbrev pub left : List ℕ → Design
left bytes = written (first_nodes bytes)

abbrev pub right : List ℕ → Design
right bytes = written (second_nodes bytes)

-- The file is well-formed, both designs pass the check, and there are cells for all pairs of their states.
pub record Comparable (bytes : List ℕ) : Type 0 where
  pub file : file_fault bytes ≡ None
  pub first : Passed (first_nodes bytes)
  pub second : Passed (second_nodes bytes)
  pub cells : (left bytes).sys.n * (right bytes).sys.n ≤ 16384

-- So many pairs of states are equal: some test of the pairs' numbers holds exactly for these, and so many pass it.
abbrev pub EqualPairs : Design → Design → ℕ → Type 0
EqualPairs d e pairs =
    (test : ℕ → Bool)
    × ((s t : ℕ) → s < d.sys.n → t < e.sys.n → (test (s * e.sys.n + t) ≡ true) ↔ bisimulations.Equal d.sys e.sys s t)
    × (pairs ≡ passing test (d.sys.n * e.sys.n))

-- As many sweeps are made as the refinement has rounds, and a pair that is not equal is struck in one.
abbrev pub JudgedEqual : Design → Design → ℕ → ℕ → Type 0
JudgedEqual d e sweeps zeros = EqualDesigns d e × Rounds (standing d.sys) (standing e.sys) sweeps × EqualPairs d e zeros

abbrev pub JudgedDifferent : Design → Design → ℕ → ℕ → Type 0
JudgedDifferent d e sweeps round = (EqualDesigns d e → ⊥) × Rounds (standing d.sys) (standing e.sys) sweeps × StruckIn (standing d.sys) (standing e.sys) round d.start e.start

-- What is answered of two designs that passed the check: there are cells for 16384 pairs.
abbrev pub Settles : Design → Design → Answer → Type 0
Settles d e (Equal sweeps zeros) = (d.sys.n * e.sys.n ≤ 16384) × JudgedEqual d e sweeps zeros
Settles d e (Different sweeps round) = (d.sys.n * e.sys.n ≤ 16384) × JudgedDifferent d e sweeps round
Settles d e (Refused (File f)) = ⊥
Settles d e (Refused (First f)) = ⊥
Settles d e (Refused (Second f)) = ⊥
Settles d e (Refused FewCells) = 16384 < d.sys.n * e.sys.n

-- Asked in this order: the file's questions, those of the first design, those of the second, and whether there are cells enough.
abbrev pub Answered : List ℕ → Answer → Type 0
Answered bytes (Equal sweeps zeros) = Comparable bytes × JudgedEqual (left bytes) (right bytes) sweeps zeros
Answered bytes (Different sweeps round) = Comparable bytes × JudgedDifferent (left bytes) (right bytes) sweeps round
Answered bytes (Refused (File f)) = file_fault bytes ≡ Some f
Answered bytes (Refused (First f)) = (file_fault bytes ≡ None) × checks.Refused (first_nodes bytes) f
Answered bytes (Refused (Second f)) = (file_fault bytes ≡ None) × Passed (first_nodes bytes) × checks.Refused (second_nodes bytes) f
Answered bytes (Refused FewCells) = (file_fault bytes ≡ None) × Passed (first_nodes bytes) × Passed (second_nodes bytes) × (16384 < (left bytes).sys.n * (right bytes).sys.n)

-- why no comparison is made, for a file that gives no nodes
abbrev pub stop_of : ReadFault → Stop
stop_of (reads.File f) = Fault (File f)
stop_of (reads.Memory e) = Memory e

-- what stops is what is answered, unless memory is wanting
abbrev pub Stops : List ℕ → Stop → Type 0
Stops bytes (Fault f) = Answered bytes (Refused f)
Stops bytes (Memory e) = Unit {0}

abbrev pub SaysEqual : Answer → Type 0
SaysEqual (Equal sweeps zeros) = Unit {0}
SaysEqual (Different sweeps round) = ⊥
SaysEqual (Refused f) = ⊥

abbrev pub SaysDifferent : Answer → Type 0
SaysDifferent (Equal sweeps zeros) = ⊥
SaysDifferent (Different sweeps round) = Unit {0}
SaysDifferent (Refused f) = ⊥

-- Equal is answered exactly if the designs can be compared and are equal, and different exactly if they can be and are not.
abbrev pub Exact : List ℕ → Answer → Type 0
Exact bytes a = (SaysEqual a ↔ (Comparable bytes × EqualDesigns (left bytes) (right bytes))) × (SaysDifferent a ↔ (Comparable bytes × (EqualDesigns (left bytes) (right bytes) → ⊥)))
