use Rattle.rules.proofs.Choices.{nil_derived, prefix_derived, sum_derived}
use Rattle.rules.proofs.Pairings.{parallel_derived}
use Rattle.rules.proofs.Recodings.{restriction_derived, renaming_derived, raising_derived, lowering_derived, standing_derived}
use Rattle.rules.proofs.transitions_are_derived.Goals as goal

pub returns : goal.returns
returns c = record {
  nil = nil_derived;
  prefix = prefix_derived;
  sum = sum_derived;
  parallel = parallel_derived;
  restriction = restriction_derived;
  renaming = renaming_derived;
  raising = raising_derived;
  lowering = lowering_derived;
  standing = standing_derived;
}
