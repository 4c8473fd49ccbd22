-- Which nodes pass the check, and which refusal the others get.
use Rattle.std.specs.Prelude.{◌≡◌, ℕ, ◌-◌, ◌<◌, true, false, List, length, Some, None, slice_index_or}
use Rattle.designs.specs.Nodes.{fault, countable, written}
use Rattle.designs.specs.Refusals.{place}
use Rattle.designs.specs.declared.node.Node.{Node}
use Rattle.designs.specs.declared.refusal.NodeRefusal.{NodeRefusal}
use Rattle.designs.specs.declared.refusal.NodeRefusal.TheVariants.{Count, Kind, Children, Fields, Outsize}

-- none of the first k nodes fails a question
abbrev pub Faultless : List Node → ℕ → Type 0
Faultless xs k = (j : ℕ) (e : Node) → j < k → fault j (slice_index_or xs j e) ≡ None

-- the first node that fails a question, with the first that it fails
abbrev pub FirstFault : List Node → NodeRefusal → Type 0
FirstFault xs r = (place r < length xs) × Faultless xs (place r) × ((e : Node) → fault (place r) (slice_index_or xs (place r) e) ≡ Some r)

abbrev pub Passed : List Node → Type 0
Passed xs = (countable xs ≡ true) × Faultless xs (length xs) × (0 < (written xs).sys.n)

abbrev pub Refused : List Node → NodeRefusal → Type 0
Refused xs Count = countable xs ≡ false
Refused xs (Kind i) = (countable xs ≡ true) × FirstFault xs (Kind i)
Refused xs (Children i) = (countable xs ≡ true) × FirstFault xs (Children i)
Refused xs (Fields i) = (countable xs ≡ true) × FirstFault xs (Fields i)
Refused xs (Outsize i) = (countable xs ≡ true) × Faultless xs (length xs) × (i ≡ length xs - 1) × ((written xs).sys.n ≡ 0)
