use Rattle.std.proofs.Common.{subst}
use Rattle.filters.specs.Kept.{kept}
use Rattle.actions.specs.Transitions.{Kth}
use Rattle.layers.proofs.layered.LayeredSystem.nth.Goals as goal

pub returns : goal.returns
returns g c =
    let ms = (g.S.System.meaning c.args.self.now.below).moves c.args.s in
    subst (λ b. Kth (kept (g.Y.Layer.rule.keeps b) ms) c.args.k c.nth_kept.result) c.test_of.ensures c.nth_kept.ensures
