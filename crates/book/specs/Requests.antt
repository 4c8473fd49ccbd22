-- The calls that requests stand for.
use Rattle.std.specs.Prelude.{List, map, vec_items}
use Rattle.book.specs.declared.request.Request.{Request}
use Rattle.book.specs.declared.request.Request.TheVariants as request
use Rattle.book.specs.Plain.{Call, enter, propose, prove, close}

abbrev pub call_of : Request → Call
call_of (request.Enter socket state) = enter socket state
call_of (request.Propose socket state) = propose socket state
call_of (request.Prove socket number rows) = prove socket number (vec_items rows)
call_of (request.Close socket number) = close socket number

abbrev pub calls_of : List Request → List Call
calls_of requests = map call_of requests
