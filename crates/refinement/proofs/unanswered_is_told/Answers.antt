use Rattle.refinement.proofs.Telling.{told}
use Rattle.refinement.proofs.unanswered_is_told.Goals as goal

pub returns : goal.returns
returns c = told
