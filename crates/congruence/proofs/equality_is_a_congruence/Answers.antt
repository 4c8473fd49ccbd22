use Rattle.congruence.proofs.Recodings.{restrict_congruence, rename_congruence, raise_congruence, lower_congruence}
use Rattle.congruence.proofs.Sums.{prefix_congruence, sum_congruence}
use Rattle.congruence.proofs.Parallels.{parallel_congruence}
use Rattle.congruence.proofs.equality_is_a_congruence.Goals as goal

pub returns : goal.returns
returns c = record {
  prefix = prefix_congruence;
  sum = sum_congruence;
  parallel = parallel_congruence;
  restriction = restrict_congruence;
  renaming = rename_congruence;
  raising = raise_congruence;
  lowering = lower_congruence;
}
