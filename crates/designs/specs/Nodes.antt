-- Nodes as they are handed in: what each says, which question it fails, and the design that they write.
use Rattle.std.specs.Prelude.{ℕ, ◌+◌, ◌-◌, Bool, cond, ◌&&◌, List, [], ◌∷◌, length, Some, None, Option, ◌==◌, nat_le}
use Rattle.theory.specs.Designs.{Design}
use Rattle.designs.specs.Forms.{Form, Nil, Prefix, Sum, Parallel, Restrict, Rename, Raise, Lower, below, lawful}
use Rattle.designs.specs.Tables.{design, too_large}
use Rattle.designs.specs.declared.node.Node.{Node}
use Rattle.designs.specs.declared.refusal.NodeRefusal.{NodeRefusal}
use Rattle.designs.specs.declared.refusal.NodeRefusal.TheVariants.{Kind, Children, Fields}

-- The kinds 0 to 7 are nil and the seven operators. Each reads the fields that it uses, and ignores the others.
abbrev pub said : Node → Form
said x =
    cond (x.kind == 1) (Prefix x.code x.left)
    (cond (x.kind == 2) (Sum x.left x.right)
    (cond (x.kind == 3) (Parallel x.left x.right)
    (cond (x.kind == 4) (Restrict x.first x.second x.left)
    (cond (x.kind == 5) (Rename x.code x.first x.second x.left)
    (cond (x.kind == 6) (Raise x.first x.second x.left)
    (cond (x.kind == 7) (Lower x.first x.second x.left)
    Nil))))))

-- the first question that the node x at i fails
abbrev pub fault : ℕ → Node → Option NodeRefusal
fault i x = cond (nat_le x.kind 7) (cond (below i (said x)) (cond (lawful (said x)) None (Some (Fields i))) (Some (Children i))) (Some (Kind i))

-- a faulty node counts as nil
abbrev pub form : ℕ → Node → Form
form i x = cond (nat_le x.kind 7 && (below i (said x) && lawful (said x))) (said x) Nil

abbrev pub forms_from : ℕ → List Node → List Form
forms_from i [] = []
forms_from i (x ∷ xs) = form i x ∷ forms_from (i + 1) xs

abbrev pub forms : List Node → List Form
forms xs = forms_from 0 xs

abbrev pub countable : List Node → Bool
countable xs = nat_le 1 (length xs) && nat_le (length xs) 256

-- the design of the last node, if there are 1 to 256
abbrev pub written : List Node → Design
written xs = cond (countable xs) (design (forms xs) (length xs - 1)) too_large
