-- A walk that is bounded by the length of what it yields.
use Rattle.std.proofs.Common.{◌≡◌, List, Option, length, subst}
use Rattle.std.proofs.Math.Seq.{take-length}
use Rattle.std.specs.Iterator.Adapters.{take_source, take_count, take_steps}
use Rattle.std.proofs.lemmas.Iterator.{YieldsList, YieldsList-from_take}

pub whole_from_take : {S A B : Type 0} {steps : S → Option A → S → Type 0} {v : A → B} {ys : List B} {s : _}
    → YieldsList steps v (take_source s) ys → take_count s ≡ length ys → YieldsList (take_steps steps) v s ys
whole_from_take {steps} {v} {ys} {s} road e = subst (YieldsList (take_steps steps) v s) (take-length ys) (YieldsList-from_take (length ys) road e)
