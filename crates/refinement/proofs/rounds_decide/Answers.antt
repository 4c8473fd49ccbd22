use Rattle.refinement.proofs.Rounds.{rounds_exact, struck_exact, rounds_bound, rounds_one}
use Rattle.refinement.proofs.rounds_decide.Goals as goal

pub returns : goal.returns
returns c = record { exact = rounds_exact; struck = struck_exact; bound = rounds_bound; one = rounds_one }
