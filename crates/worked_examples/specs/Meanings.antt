-- What a term means: a design, made by the operators without limits. And that it follows the rules.
use Rattle.std.specs.Prelude.{◌≡◌, ℕ, ◌<◌, Bool, true, ◌&&◌, nat_le}
use Rattle.theory.specs.Codes.{lawful_code, lawful_word, lawful_channel}
use Rattle.theory.specs.Designs.{Design, nil_design, prefixed, chosen, paired, restricted, rechannelled, raised_design, lowered_design}
use Rattle.theory.specs.Equivalence.{InRange}
use Rattle.terms.specs.Terms.{Term, Nil, Prefix, Sum, Parallel, Restrict, Rename, Raise, Lower}
use Rattle.terms.specs.StateTerms.{StepsAreTransitions}

abbrev pub meaning : Term → Design
meaning Nil = nil_design
meaning (Prefix a p) = prefixed a (meaning p)
meaning (Sum p q) = chosen (meaning p) (meaning q)
meaning (Parallel p q) = paired (meaning p) (meaning q)
meaning (Restrict first second p) = restricted first second (meaning p)
meaning (Rename class from to p) = rechannelled class from to (meaning p)
meaning (Raise first second p) = raised_design first second (meaning p)
meaning (Lower first second p) = lowered_design first second (meaning p)

-- the fields are actions, classes, channels and words of channels
abbrev pub lawful : Term → Bool
lawful Nil = true
lawful (Prefix a p) = lawful_code a && lawful p
lawful (Sum p q) = lawful p && lawful q
lawful (Parallel p q) = lawful p && lawful q
lawful (Restrict first second p) = (lawful_word first && lawful_word second) && lawful p
lawful (Rename class from to p) = (nat_le class 1 && (lawful_channel from && lawful_channel to)) && lawful p
lawful (Raise first second p) = (lawful_word first && lawful_word second) && lawful p
lawful (Lower first second p) = (lawful_word first && lawful_word second) && lawful p

abbrev pub LawfulTerm : Term → Type 0
LawfulTerm p = lawful p ≡ true

-- Each state of the design stands for a term, the start for p, and its transitions are exactly the steps that the rules give its
-- term. The start is a state, and transitions lead from states to states.
pub record ByTheRules (d : Design) (p : Term) : Type 0 where
  pub term : ℕ → Term
  pub itself : term d.start ≡ p
  pub steps : StepsAreTransitions d.sys term
  pub state : d.start < d.sys.n
  pub range : InRange d.sys

abbrev pub MeaningsFollowRules : Type 0
MeaningsFollowRules = (p : Term) → LawfulTerm p → ByTheRules (meaning p) p
