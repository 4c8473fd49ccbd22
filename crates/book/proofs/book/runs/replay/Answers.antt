use Rattle.certificates.proofs.EqualListings.{equal_sheets}
use Rattle.book.specs.Plain.{blank}
use Rattle.book.specs.Requests.{calls_of}
use Rattle.book.specs.Views.{view}
use Rattle.book.proofs.Invariants.{runs_keep_designs}
use Rattle.book.proofs.Runs.{request_more, requests_all}
use Rattle.book.proofs.book.runs.replay.Goals as goal

pub loop-request-preserved : goal.loop-request-preserved
loop-request-preserved g c =
    let M = g.S.System.meaning c.args.system.now in
    let l = c.loop-request in
    request_more M c.args.requests.now l.request-index c.request-item.result blank (view l.book) (view c.make.new.self) c.loop-request-test.true c.request-item.is l.invariant c.make.ensures

pub returns-clause-run : goal.returns-clause-run
returns-clause-run g c =
    let M = g.S.System.meaning c.args.system.now in
    let l = c.loop-request in
    requests_all M c.args.requests.now l.request-index blank (view l.book) c.loop-request-test.false l.invariant

pub returns-clause-designs : goal.returns-clause-designs
returns-clause-designs g c =
    let s = c.args.system.now in
    let M = g.S.System.meaning s in
    let l = c.loop-request in
    let run = requests_all M c.args.requests.now l.request-index blank (view l.book) c.loop-request-test.false l.invariant in
    runs_keep_designs equal_sheets M (g.S.System.lawful s) (calls_of c.args.requests.now) (view l.book) run
