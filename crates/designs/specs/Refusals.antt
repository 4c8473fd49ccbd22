-- The number of the question that nodes fail, and the node at which it is asked.
use Rattle.std.specs.Prelude.{ℕ}
use Rattle.designs.specs.declared.refusal.NodeRefusal.{NodeRefusal}
use Rattle.designs.specs.declared.refusal.NodeRefusal.TheVariants.{Count, Kind, Children, Fields, Outsize}

-- 5: 1 to 256 nodes. 6: the kind is 0 to 7. 7: the children are below the node. 8: its code, class, channels or pair are
-- lawful. 9: the last node is not outsize.
abbrev pub number : NodeRefusal → ℕ
number Count = 5
number (Kind i) = 6
number (Children i) = 7
number (Fields i) = 8
number (Outsize i) = 9

abbrev pub place : NodeRefusal → ℕ
place Count = 0
place (Kind i) = i
place (Children i) = i
place (Fields i) = i
place (Outsize i) = i
