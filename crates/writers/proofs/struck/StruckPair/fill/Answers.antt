use Rattle.std.proofs.Common.{eqb, ltb}
use Rattle.std.proofs.lemmas.Bool.{and_from, or_left, lt-ltb}
use Rattle.theory.specs.Layers.{shown}
use Rattle.writers.specs.Writes.{cell_of, lower}
use Rattle.writers.proofs.Entries.{has_row}
use Rattle.writers.proofs.struck.StruckPair.fill.Goals as goal

pub fill_rounds-count-requires-clause-moves : goal.fill_rounds-count-requires-clause-moves
fill_rounds-count-requires-clause-moves g c =
    let q = c.args.self.now in
    let s = q.compared in
    let a = shown g.Y.Layer.rule (g.S.System.meaning s.left.now) in
    let b = shown g.Y.Layer.rule (g.T.System.meaning s.right.now) in
    let cell = cell_of s.cells.now in
    let asked = q.pair in
    λ i l p h. has_row a b cell asked q.inside q.struck c.requires.moves i l (or_left (lower cell (cell asked) i) (eqb i asked) (and_from (ltb 0 (cell i)) (ltb (cell i) (cell asked)) (lt-ltb 0 (cell i) p) (lt-ltb (cell i) (cell asked) h)))
