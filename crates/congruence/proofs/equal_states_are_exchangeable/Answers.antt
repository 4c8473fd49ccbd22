use Rattle.congruence.proofs.Expressions.{exchange}
use Rattle.congruence.proofs.equal_states_are_exchangeable.Goals as goal

pub returns : goal.returns
returns c = exchange
