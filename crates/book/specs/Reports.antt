-- The number and the place of each refusal of the book. The place is the socket as it was given; a sheet's refusal has its own.
use Rattle.std.specs.Prelude.{ℕ}
use Rattle.certificates.specs.declared.fault.Report.{Report}
use Rattle.certificates.specs.Faults as sheets
use Rattle.book.specs.declared.fault.BookFault.{BookFault}
use Rattle.book.specs.declared.fault.BookFault.TheVariants.{NoSocket, NoState, Occupied, Vacant, ChangeOpen, Full, NoChange, Sheet}

abbrev pub at_socket : ℕ → ℕ → Report
at_socket number socket = record { number = number; place = socket; side = 0; k = 0 }

abbrev pub report : BookFault → Report
report (NoState socket) = at_socket 19 socket
report (NoSocket socket) = at_socket 22 socket
report (Occupied socket) = at_socket 23 socket
report (Vacant socket) = at_socket 24 socket
report (ChangeOpen socket) = at_socket 25 socket
report (Full socket) = at_socket 26 socket
report (NoChange socket) = at_socket 27 socket
report (Sheet f) = sheets.report f
