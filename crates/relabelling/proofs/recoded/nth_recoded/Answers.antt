use Rattle.std.proofs.Common.{ℕ, sym, ap, ◌∙◌}
use Rattle.theory.specs.Systems.{Move}
use Rattle.theory.specs.Operators.{recoded}
use Rattle.actions.specs.Transitions.{move_of}
use Rattle.actions.proofs.Kths.{kth_map, kth_none, kth_past}
use Rattle.relabelling.proofs.recoded.nth_recoded.Goals as goal

pub returns-in_err-m : goal.returns-in_err-m
returns-in_err-m g c =
    let ms = (g.S.System.meaning c.args.below.now).moves c.args.s in
    kth_past _ c.args.k c.from_residual.result c.from_residual.ensures (kth_none (recoded (g.R.Recodes.code c.args.by.now)) ms c.args.k c.in_err-m.ensures)

pub returns : goal.returns
returns g c =
    let ms = (g.S.System.meaning c.args.below.now).moves c.args.s in
    let m = c.in_ok-m.m in
    let e = c.in_ok-m.ensures in
    let w = kth_map (recoded (g.R.Recodes.code c.args.by.now)) ms c.args.k (move_of m) e.0 e.1 in
    (w.0, w.1 ∙ ap (at m.1) (sym c.recoded.ensures))
  where
    at : ℕ → ℕ → Move
    at t a = (a, t)
