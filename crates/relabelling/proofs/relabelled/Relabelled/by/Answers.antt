use Rattle.relabelling.proofs.relabelled.Relabelled.by.Goals as goal

pub returns-clause-rules : goal.returns-clause-rules
returns-clause-rules g c = g.met.O.Relabels.follows c.args.operator (g.S.System.meaning c.args.below) (g.S.System.lawful c.args.below)
