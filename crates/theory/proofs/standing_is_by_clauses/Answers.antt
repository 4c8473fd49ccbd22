use Rattle.theory.proofs.Standing.{standing_clauses}
use Rattle.theory.proofs.standing_is_by_clauses.Goals as goal

pub returns : goal.returns
returns c = standing_clauses
