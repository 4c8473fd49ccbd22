use Rattle.std.proofs.Common.{ℕ, ◌↔◌, sym, subst}
use Rattle.theory.specs.Systems.{Moves}
use Rattle.theory.specs.Layers.{standing, Stands}
use Rattle.theory.proofs.Standing.{standing_clauses}
use Rattle.layers.proofs.standing.Standing.over.Goals as goal

pub returns : goal.returns
returns g c = record {
  below = c.over.ensures;
  clauses = subst (λ x. (s a t : ℕ) → Moves (standing (g.S.System.meaning x)) s a t ↔ Stands (g.S.System.meaning c.args.below) s a t) (sym c.over.ensures) (standing_clauses (g.S.System.meaning c.args.below));
}
