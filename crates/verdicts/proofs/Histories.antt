-- What each call does to the run that led to it.
use Rattle.std.proofs.Common.{◌≡◌, ℕ, ◌+◌, ◌*◌, ◌≤◌, false, cond, ltb, List, length, get_or, Some, None, Option, refl, ap, ◌∙◌}
use Rattle.std.proofs.lemmas.Bool.{le-ltb}
use Rattle.theory.specs.Systems.{Lts, Lawful}
use Rattle.theory.specs.Layers.{Layering, shown}
use Rattle.refinement.specs.Cells.{next_cell}
use Rattle.refinement.specs.Runs.{Run}
use Rattle.refinement.proofs.Runs.{runs_exact}
use Rattle.refinement.proofs.Ranges.{shown_in_range}
use Rattle.comparison.specs.Comparisons.{sweep_fault, cell_after, swept_cell}
use Rattle.comparison.specs.declared.comparison.progress.Progress.{Progress}
use Rattle.comparison.specs.declared.comparison.Refusal.{Refusal}
use Rattle.verdicts.specs.Decisions.{Past, Final}

-- A call that is to make the cells of the pairs new leaves those past them, whatever it answers.
past_after : (fault : Option Refusal) (size i new old : ℕ) → size ≤ i → cell_after fault (ltb i size) new old ≡ old
past_after None size i new old l = ap (λ b. cond b new old) (le-ltb i size l)
past_after (Some f) size i new old l = refl

-- sweep
pub swept_past : (M N : Lts) (o : Progress) (cells new : List ℕ) → ((i : ℕ) → get_or new i 0 ≡ swept_cell M N o cells i) → Past (M.n * N.n) cells new
swept_past M N o cells new left i l = left i ∙ past_after (sweep_fault o M.n N.n (length cells)) (M.n * N.n) i (next_cell M N cells (o.made + 1) i) (get_or cells i 0) l

-- The cells in the end.
pub final_cells : (y : Layering) (A B : Lts) → Lawful A → Lawful B → (made : ℕ) (cells : List ℕ) → Run (shown y A) (shown y B) false made cells → Final y A B cells
final_cells y A B lawful_left lawful_right made cells run = runs_exact (shown y A) (shown y B) (shown_in_range y A lawful_left) (shown_in_range y B lawful_right) made cells run
