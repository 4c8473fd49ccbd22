use Rattle.std.proofs.Common.{◌*◌, ◌<◌, ◌≤◌, mul-le-mul, arith}
use Rattle.theory.specs.Operators.{placed}
use Rattle.actions.specs.Transitions.{move_of}
use Rattle.actions.proofs.Kths.{kth_map, kth_none, kth_past, target_small}
use Rattle.composition.proofs.placed.Place.nth.Given as given
use Rattle.composition.proofs.placed.Place.nth.Goals as goal
use Rattle.composition.proofs.placed.Place.nth.Goals.{In_ok-m}

pub returns-in_err-m : goal.returns-in_err-m
returns-in_err-m g c =
    let ms = (g.S.System.meaning c.args.part.now).moves c.args.s in
    kth_past _ c.args.k c.from_residual.result c.from_residual.ensures (kth_none (placed c.args.self.factor c.args.self.shift) ms c.args.k c.in_err-m.ensures)

product : (g : given.Over) (c : In_ok-m g) → c.in_ok-m.m.1 * c.args.self.factor ≤ 1048576
product g c =
    let x = c.args.part.now in
    let e = c.in_ok-m.ensures in
    let a : c.in_ok-m.m.1 < 1024 = target_small (g.S.System.meaning x) (g.S.System.lawful x) c.args.s c.args.k (move_of c.in_ok-m.m) e.0 e.1 in
    let b : c.in_ok-m.m.1 ≤ 1024 = omega arith in
    omega (arith, mul-le-mul b c.args.self.factor_small)

pub overflow_mul-result : goal.overflow_mul-result
overflow_mul-result g c = omega (arith, product g (goal.at.overflow_mul-result g c).In_ok-m)

pub overflow_add-result : goal.overflow_add-result
overflow_add-result g c = omega (arith, product g (goal.at.overflow_add-result g c).In_ok-m, c.args.self.shift_small)

pub returns : goal.returns
returns g c =
    let e = c.in_ok-m.ensures in
    kth_map (placed c.args.self.factor c.args.self.shift) ((g.S.System.meaning c.args.part.now).moves c.args.s) c.args.k (move_of c.in_ok-m.m) e.0 e.1
