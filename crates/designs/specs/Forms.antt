-- What a node of a written design says, in plain numbers: nil, or an operator over earlier nodes. The nodes come last.
use Rattle.std.specs.Prelude.{ℕ, Bool, true, ◌&&◌, nat_le, nat_lt}
use Rattle.theory.specs.Codes.{lawful_code, lawful_word, lawful_channel}

pub data Form : Type 0 where
  Nil : Form
  Prefix : (code l : ℕ) → Form
  Sum : (l r : ℕ) → Form
  Parallel : (l r : ℕ) → Form
  Restrict : (first second l : ℕ) → Form
  Rename : (class from to l : ℕ) → Form
  Raise : (first second l : ℕ) → Form
  Lower : (first second l : ℕ) → Form

-- each node that the form names is below i
abbrev pub below : ℕ → Form → Bool
below i Nil = true
below i (Prefix code l) = nat_lt l i
below i (Sum l r) = nat_lt l i && nat_lt r i
below i (Parallel l r) = nat_lt l i && nat_lt r i
below i (Restrict first second l) = nat_lt l i
below i (Rename class from to l) = nat_lt l i
below i (Raise first second l) = nat_lt l i
below i (Lower first second l) = nat_lt l i

-- its action, pair of words or renaming is one
abbrev pub lawful : Form → Bool
lawful Nil = true
lawful (Prefix code l) = lawful_code code
lawful (Sum l r) = true
lawful (Parallel l r) = true
lawful (Restrict first second l) = lawful_word first && lawful_word second
lawful (Rename class from to l) = nat_le class 1 && (lawful_channel from && lawful_channel to)
lawful (Raise first second l) = lawful_word first && lawful_word second
lawful (Lower first second l) = lawful_word first && lawful_word second
