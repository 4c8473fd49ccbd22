use Rattle.refinement.proofs.Runs.{runs_progress, runs_tell, runs_settle, runs_exact}
use Rattle.refinement.proofs.runs_settle.Goals as goal

pub returns : goal.returns
returns c = record { progress = runs_progress; told = runs_tell; settled = runs_settle; exact = runs_exact }
