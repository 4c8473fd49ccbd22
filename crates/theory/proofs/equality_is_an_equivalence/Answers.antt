use Rattle.theory.proofs.Equivalence
use Rattle.theory.proofs.equality_is_an_equivalence.Goals as goal

pub returns : goal.returns
returns c = record { reflexive = Equivalence.reflexive; symmetric = Equivalence.symmetric; transitive = Equivalence.transitive; range = Equivalence.lawful_in_range }
