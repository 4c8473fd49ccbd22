-- What the reader answers: the refusal, or exactly the nodes in the file.
use Rattle.std.specs.Prelude.{◌≡◌, ℕ, List, Some, None, Ok, Err, vec_items, Result}
use Rattle.files.specs.Layouts.{first_nodes, second_nodes}
use Rattle.files.specs.Refusals.{file_fault}
use Rattle.files.specs.declared.refusal.ReadFault.{ReadFault}
use Rattle.files.specs.declared.refusal.ReadFault.TheVariants.{File, Memory}
use Rattle.files.specs.declared.refusal.DesignPair.{DesignPair}

abbrev pub Read : List ℕ → Result DesignPair ReadFault → Type 0
Read bytes (Ok p) = (file_fault bytes ≡ None) × (vec_items p.first ≡ first_nodes bytes) × (vec_items p.second ≡ second_nodes bytes)
Read bytes (Err (File f)) = file_fault bytes ≡ Some f
Read bytes (Err (Memory e)) = Unit {0}
