use Rattle.std.proofs.Common.{◌/◌, ◌%◌}
use Rattle.theory.specs.Layers.{shown}
use Rattle.certificates.specs.Listings.{before}
use Rattle.writers.specs.Writes.{cell_of}
use Rattle.writers.proofs.Entries.{entry_left, entry_right}
use Rattle.writers.proofs.cells.PairCells.entry.Goals as goal

pub returns-then-is_some : goal.returns-then-is_some
returns-then-is_some g c =
    let p = c.args.self.now in
    let a = shown g.Y.Layer.rule (g.S.System.meaning p.left.now) in
    let b = shown g.Y.Layer.rule (g.T.System.meaning p.right.now) in
    let i = c.args.i in
    let s = c.of-s.ensures in
    let t = c.of-t.ensures in
    entry_left a b (before (cell_of p.cells.now) b.n (cell_of p.cells.now i)) (i / b.n) (i % b.n) c.side_entry-row.result
    (rw (s.0, s.1, t.0, t.1, c.pair_at-pair.ensures, c.states-n2.ensures) at c.side_entry-row.ensures) c.if-is_some.ensures

pub returns : goal.returns
returns g c =
    let p = c.args.self.now in
    let a = shown g.Y.Layer.rule (g.S.System.meaning p.left.now) in
    let b = shown g.Y.Layer.rule (g.T.System.meaning p.right.now) in
    let i = c.args.i in
    let s = c.of-s.ensures in
    let t = c.of-t.ensures in
    entry_right a b (before (cell_of p.cells.now) b.n (cell_of p.cells.now i)) (i / b.n) (i % b.n) c.side_entry-row.result
    (rw (s.0, s.1, t.0, t.1, c.pair_at-pair.ensures, c.states-n2.ensures) at c.side_entry-row.ensures) c.side_entry.result c.if-is_some.ensures
    (rw (c.of.ensures, s.0, s.1, t.0, t.1, c.pair_at-pair.ensures, c.states-n2.ensures) at c.side_entry.ensures)
