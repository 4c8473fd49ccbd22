use Rattle.certificates.proofs.EqualListings.{equal_sheets}
use Rattle.certificates.proofs.Cells.{different_sheets}
use Rattle.certificates.proofs.sheets_decide.Goals as goal

pub returns : goal.returns
returns c = record { equal = equal_sheets; different = different_sheets }
