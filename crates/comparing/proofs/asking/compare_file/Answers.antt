use Rattle.comparing.proofs.Exactness.{answered_exact}
use Rattle.comparing.specs.declared.answer.Answer.TheVariants.{Refused}
use Rattle.comparing.proofs.asking.compare_file.Goals as goal

pub returns-in-Ok-clause-exact : goal.returns-in-Ok-clause-exact
returns-in-Ok-clause-exact c = answered_exact c.args.bytes.now c.in-Ok.answer c.in-Ok.ensures

pub returns-in-Err-Fault-clause-exact : goal.returns-in-Err-Fault-clause-exact
returns-in-Err-Fault-clause-exact c = answered_exact c.args.bytes.now (Refused c.in-Err-Fault.fault) (rw c.in-Err-Fault.field-0-is at c.in-Err-Fault.ensures)
