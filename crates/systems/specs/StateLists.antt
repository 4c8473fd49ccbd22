-- Lists of transitions, one for each state.
use Rattle.std.specs.Prelude.{ℕ, List, [], slice_index_or}
use Rattle.actions.specs.declared.action.Action.{Action}

-- those of s, none past the last state
abbrev pub list_at : List (List (Action × ℕ)) → ℕ → List (Action × ℕ)
list_at lists s = slice_index_or lists s []
