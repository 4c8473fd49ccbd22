use Rattle.std.proofs.Common.{Some, None}
use Rattle.theory.specs.Layers.{shown}
use Rattle.certificates.specs.Faults.{side_number}
use Rattle.writers.proofs.Entries.{entry_found}
use Rattle.writers.proofs.cells.entry.side_entry.Goals as goal

pub returns-in_err-k : goal.returns-in_err-k
returns-in_err-k g c =
    let ms = (shown g.Y.Layer.rule (g.S.System.meaning c.args.mine.system.now)).moves c.args.mine.s in
    let ks = (shown g.Y.Layer.rule (g.T.System.meaning c.args.other.system.now)).moves c.args.other.s in
    rw c.from_residual.ensures (entry_found (g.P.Held.holds c.args.pairs.now) ms ks c.args.pair.left c.args.pair.right (side_number c.args.side) None (rw c.of.ensures at c.in_err-k.ensures))

pub returns : goal.returns
returns g c =
    let ms = (shown g.Y.Layer.rule (g.S.System.meaning c.args.mine.system.now)).moves c.args.mine.s in
    let ks = (shown g.Y.Layer.rule (g.T.System.meaning c.args.other.system.now)).moves c.args.other.s in
    rw c.number.ensures (entry_found (g.P.Held.holds c.args.pairs.now) ms ks c.args.pair.left c.args.pair.right (side_number c.args.side) (Some c.in_ok-k.k) (rw c.of.ensures at c.in_ok-k.ensures))
