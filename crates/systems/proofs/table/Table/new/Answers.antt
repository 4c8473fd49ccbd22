use Rattle.std.proofs.Common.{length, map, vec_items, sym, ap, ◌∙◌}
use Rattle.theory.specs.Tables.{table, widest}
use Rattle.theory.proofs.Tables.{table_lawful}
use Rattle.actions.specs.Transitions.{moves_of}
use Rattle.systems.specs.Rows.{triples}
use Rattle.systems.specs.StateLists.{list_at}
use Rattle.systems.proofs.Listings.{Holds, few, narrow, short, inside, empty, same}
use Rattle.systems.proofs.Tables.{table_held, outsize_held}
use Rattle.systems.proofs.table.Table.new.Goals as goal
use Rattle.systems.proofs.table.Table.new.Goals.{After-longest-w, then-fits+in_ok-states, else-fits}

held : (c : goal.After-longest-w) → Holds (table c.args.n (triples c.args.rows.now)) (length (vec_items c.if-fits.states)) c.longest-w.result (map vec_items (vec_items c.if-fits.states))
held c =
    let n = c.args.n in
    let rows = c.args.rows.now in
    let states = vec_items c.if-fits.states in
    let longest = c.longest-w.ensures ∙ ap (λ vs. widest (λ s. moves_of (list_at (map vec_items vs) s)) (length vs)) c.deref.ensures.value in
    elim c.if-fits.branch [
      | then-fits+in_ok-states w ↦
          table_held n rows (length states) c.longest-w.result (map vec_items states) longest (sym w.if-fits.ensures)
          (ap (λ v. length (vec_items v)) w.states-is ∙ w.in_ok-states.ensures.size)
          (λ s. ap (λ v. moves_of (list_at (map vec_items (vec_items v)) s)) w.states-is ∙ w.in_ok-states.ensures.moves s)
      | else-fits w ↦
          outsize_held n rows (length states) c.longest-w.result (map vec_items states) longest (sym w.if-fits.ensures)
          (ap (λ v. length (vec_items v)) w.states-is ∙ ap length w.new-states.ensures.items)
          (ap (λ v. map vec_items (vec_items v)) w.states-is ∙ ap (map vec_items) w.new-states.ensures.items)
    ]

pub invariant_of-result : goal.invariant_of-result
invariant_of-result c =
    let law = table_lawful c.args.n (triples c.args.rows.now) in
    let h = held c in
    record { few = few law h; narrow = narrow law h; short = short law h; inside = inside law h; empty = empty law h }

pub returns : goal.returns
returns c = same (held (goal.at.returns c).After-longest-w)
