use Rattle.std.proofs.Common.{Err, ap, ◌∙◌, subst}
use Rattle.std.proofs.lemmas.Result.{err_from_is_err_and}
use Rattle.book.specs.Openings.{Opened}
use Rattle.book.specs.Views.{view}
use Rattle.book.proofs.Proving.{prove_accepted, prove_refused, answer_refused}
use Rattle.book.proofs.book.Book.prove.Goals as goal

pub returns-in_err-check_equal-clause-step : goal.returns-in_err-check_equal-clause-step
returns-in_err-check_equal-clause-step g c =
    let b = view c.args.self.now in
    let slip = c.args.slip.now in
    let found = subst (Opened b.sockets slip.socket slip.number) c.in_ok-p.ensures.ok_part c.pending.ensures in
    prove_refused (g.S.System.meaning c.args.system.now) b slip.socket slip.number c.in_ok-p.p found c.args.rows.now c.in_err-check_equal.field-0.0 ((c.check_equal.ensures.refused c.in_err-check_equal.field-0.0).0 c.in_err-check_equal.was)

pub returns-in_err-check_equal-clause-answer : goal.returns-in_err-check_equal-clause-answer
returns-in_err-check_equal-clause-answer g c =
    let b = view c.args.self.now in
    let slip = c.args.slip.now in
    let found = subst (Opened b.sockets slip.socket slip.number) c.in_ok-p.ensures.ok_part c.pending.ensures in
    let r = c.from_residual-in_err-check_equal.result in
    let e = err_from_is_err_and r c.from_residual-in_err-check_equal.ensures.1 in
    answer_refused (g.S.System.meaning c.args.system.now) b slip.socket slip.number c.in_ok-p.p found c.args.rows.now c.in_err-check_equal.field-0.0 ((c.check_equal.ensures.refused c.in_err-check_equal.field-0.0).0 c.in_err-check_equal.was) r (e.1 ∙ ap Err e.2)

pub returns-clause-step : goal.returns-clause-step
returns-clause-step g c =
    let b = view c.args.self.now in
    let slip = c.args.slip.now in
    let found = subst (Opened b.sockets slip.socket slip.number) c.in_ok-p.ensures.ok_part c.pending.ensures in
    prove_accepted (g.S.System.meaning c.args.system.now) b slip.socket slip.number c.in_ok-p.p found c.args.rows.now (c.check_equal.ensures.accepted.0 c.in_ok-check_equal.was)
