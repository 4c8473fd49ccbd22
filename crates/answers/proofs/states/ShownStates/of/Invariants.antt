use Rattle.std.proofs.Common.{◌≡◌, ℕ, ◌<◌, false, length, get_or}
use Rattle.answers.proofs.states.ShownStates.of.Given as goal

abbrev pub invariant-loop-s : goal.invariant-loop-s
invariant-loop-s g l =
    let M = g.S.System.meaning l.system in
    (length l.calm-items ≡ M.n) × ((k : ℕ) → k < l.s → get_or l.calm-items k false ≡ g.Y.Layer.rule.calm (M.moves k))
