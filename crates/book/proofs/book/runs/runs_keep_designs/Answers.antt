use Rattle.certificates.proofs.EqualListings.{equal_sheets}
use Rattle.book.proofs.Invariants as book_runs
use Rattle.book.proofs.book.runs.runs_keep_designs.Goals as goal

pub returns : goal.returns
returns c = book_runs.runs_keep_designs equal_sheets
