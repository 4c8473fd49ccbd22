-- What is printed of the answers of checks and writers.
use Rattle.std.specs.Prelude.{ℕ, List, ◌++◌, codes, decimal, Ok, Err, Result}
use Rattle.certificates.specs.Faults.{report}
use Rattle.certificates.specs.declared.fault.SheetFault.{SheetFault}
use Rattle.certificates.specs.declared.fault.Report.{Report}
use Rattle.writers.specs.Writes.{number}
use Rattle.writers.specs.declared.refusal.WriteRefusal.{WriteRefusal}

abbrev pub report_line : Report → List ℕ
report_line r = decimal r.number ++ (codes " " ++ (decimal r.place ++ (codes " " ++ (decimal r.side ++ (codes " " ++ decimal r.k)))))

abbrev pub checked_line : Result (Unit {0}) SheetFault → List ℕ
checked_line (Ok u) = codes "accepted"
checked_line (Err f) = codes "refused " ++ report_line (report f)

abbrev pub written_line : Result ℕ WriteRefusal → List ℕ
written_line (Ok count) = decimal count ++ codes " rows"
written_line (Err f) = codes "refused " ++ decimal (number f)
