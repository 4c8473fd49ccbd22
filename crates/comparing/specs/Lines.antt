-- The line that an answer is printed as, without its line feed.
use Rattle.std.specs.Prelude.{ℕ, List, ◌++◌, codes, decimal}
use Rattle.designs.specs.Refusals as nodes
use Rattle.files.specs.Refusals as files
use Rattle.comparing.specs.declared.answer.Answer.{Answer}
use Rattle.comparing.specs.declared.answer.Answer.TheVariants.{Equal, Different, Refused}
use Rattle.comparing.specs.declared.answer.FileFault.{FileFault}
use Rattle.comparing.specs.declared.answer.FileFault.TheVariants.{File, First, Second, FewCells}

-- the number of the question that failed, the design it was asked of (0 if of none), and the node
abbrev pub number : FileFault → ℕ
number (File f) = files.number f
number (First f) = nodes.number f
number (Second f) = nodes.number f
number FewCells = 11

abbrev pub design_number : FileFault → ℕ
design_number (File f) = 0
design_number (First f) = 1
design_number (Second f) = 2
design_number FewCells = 0

abbrev pub node_number : FileFault → ℕ
node_number (File f) = 0
node_number (First f) = nodes.place f
node_number (Second f) = nodes.place f
node_number FewCells = 0

-- a refusal by these three numbers
abbrev pub place : FileFault → List ℕ
place f = decimal (number f) ++ (codes " " ++ (decimal (design_number f) ++ (codes " " ++ decimal (node_number f))))

abbrev pub line : Answer → List ℕ
line (Equal sweeps zeros) = codes "equal " ++ (decimal sweeps ++ (codes " " ++ decimal zeros))
line (Different sweeps round) = codes "different " ++ (decimal sweeps ++ (codes " " ++ decimal round))
line (Refused f) = codes "refused " ++ place f
