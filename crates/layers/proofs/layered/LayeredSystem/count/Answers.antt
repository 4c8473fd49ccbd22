use Rattle.std.proofs.Common.{length, ap, ◌∙◌}
use Rattle.filters.specs.Kept.{kept}
use Rattle.layers.proofs.layered.LayeredSystem.count.Goals as goal

pub returns : goal.returns
returns g c =
    let ms = (g.S.System.meaning c.args.self.now.below).moves c.args.s in
    c.count_kept.ensures ∙ ap (λ b. length (kept (g.Y.Layer.rule.keeps b) ms)) c.test_of.ensures
