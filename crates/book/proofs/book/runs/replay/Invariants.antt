use Rattle.std.proofs.Common.{take}
use Rattle.book.specs.Plain.{blank, Run}
use Rattle.book.specs.Requests.{calls_of}
use Rattle.book.specs.Views.{view}
use Rattle.book.proofs.book.runs.replay.Given as goal

abbrev pub invariant-loop-request : goal.invariant-loop-request
invariant-loop-request g l = Run (g.S.System.meaning l.system) blank (calls_of (take l.request-index l.requests)) (view l.book)
