-- The meaning of a lawful term follows the rules: by induction, an operator at a time.
use Rattle.std.proofs.Common.{◌≡◌, ℕ, ◌<◌, true, ◌&&◌, leb, refl, ap, ◌∙◌, ap₂, arith}
use Rattle.std.proofs.lemmas.Bool.{and_parts, leb-true}
use Rattle.std.proofs.lemmas.Nat.{div-mul-add, mod-mul-add}
use Rattle.theory.specs.Codes.{lawful_code, lawful_word, lawful_channel}
use Rattle.theory.proofs.OperatorLaws.{Fits, fits, nil_lawful, prefix_fits, sum_fits, parallel_fits, restrict_fits, rename_fits, raise_fits, lower_fits}
use Rattle.rules.proofs.Following.{channel_lawful}
use Rattle.congruence.specs.Congruences.{Within}
use Rattle.congruence.proofs.Ranges.{within_nil, within_prefix, within_sum, within_parallel, within_restrict, within_rename, within_raise, within_lower}
use Rattle.terms.specs.Terms.{Term, Nil, Prefix, Sum, Parallel, Restrict, Rename, Raise, Lower}
use Rattle.terms.specs.StateTerms.{prefix_term, sum_term, parallel_term}
use Rattle.terms.proofs.Told.{Told, nil_told, prefix_told, sum_told, parallel_told, restrict_told, rename_told, raise_told, lower_told}
use Rattle.terms.proofs.StateTold.{steps_from}
use Rattle.worked_examples.specs.Meanings.{meaning, lawful, MeaningsFollowRules}

-- its start is a state, and transitions lead from states to states
pub meaning_within : (p : Term) → Within (meaning p).sys (meaning p).start
meaning_within Nil = within_nil
meaning_within (Prefix a p) = within_prefix a (meaning p).sys (meaning p).start (meaning_within p)
meaning_within (Sum p q) = within_sum (meaning p).sys (meaning q).sys (meaning p).start (meaning q).start (meaning_within p) (meaning_within q)
meaning_within (Parallel p q) = within_parallel (meaning p).sys (meaning q).sys (meaning p).start (meaning q).start (meaning_within p) (meaning_within q)
meaning_within (Restrict first second p) = within_restrict first second (meaning p).sys (meaning p).start (meaning_within p)
meaning_within (Rename class from to p) = within_rename class from to (meaning p).sys (meaning p).start (meaning_within p)
meaning_within (Raise first second p) = within_raise first second (meaning p).sys (meaning p).start (meaning_within p)
meaning_within (Lower first second p) = within_lower first second (meaning p).sys (meaning p).start (meaning_within p)

-- the term that a state of the meaning stands for
abbrev state_term : Term → ℕ → Term
state_term Nil = λ s. Nil
state_term (Prefix a p) = prefix_term a (meaning p).start (state_term p)
state_term (Sum p q) = sum_term (meaning p).sys.n (meaning p).start (meaning q).start (state_term p) (state_term q)
state_term (Parallel p q) = parallel_term (meaning q).sys.n (state_term p) (state_term q)
state_term (Restrict first second p) = λ s. Restrict first second (state_term p s)
state_term (Rename class from to p) = λ s. Rename class from to (state_term p s)
state_term (Raise first second p) = λ s. Raise first second (state_term p s)
state_term (Lower first second p) = λ s. Lower first second (state_term p s)

start_itself : (p : Term) → state_term p (meaning p).start ≡ p
start_itself Nil = refl
start_itself (Prefix a p) = ap (Prefix a) (start_itself p)
start_itself (Sum p q) = ap₂ Sum (start_itself p) (start_itself q)
start_itself (Parallel p q) =
    let n = (meaning q).sys.n in
    let s = (meaning p).start in
    let t = (meaning q).start in
    let l = (meaning_within q).state in
    ap₂ Parallel (ap (state_term p) (div-mul-add s n t l) ∙ start_itself p) (ap (state_term q) (mod-mul-add s n t l) ∙ start_itself q)
start_itself (Restrict first second p) = ap (Restrict first second) (start_itself p)
start_itself (Rename class from to p) = ap (Rename class from to) (start_itself p)
start_itself (Raise first second p) = ap (Raise first second) (start_itself p)
start_itself (Lower first second p) = ap (Lower first second) (start_itself p)

-- the meaning keeps the laws of systems but their limits, and its transitions are the steps of the terms
pub record Sure (p : Term) : Type 0 where
  pub fit : Fits (meaning p).sys
  pub told : Told (meaning p).sys (state_term p)

sure : (p : Term) → lawful p ≡ true → Sure p
sure Nil h = record { fit = fits nil_lawful; told = nil_told }
sure (Prefix a p) h =
    let w = and_parts (lawful_code a) (lawful p) h in
    let i = sure p w.1 in
    record {
      fit = prefix_fits a (meaning p).start (meaning p).sys w.0 (meaning_within p).state i.fit;
      told = prefix_told a (meaning p).start (meaning p).sys (state_term p) i.told;
    }
sure (Sum p q) h =
    let w = and_parts (lawful p) (lawful q) h in
    let i = sure p w.0 in
    let j = sure q w.1 in
    record {
      fit = sum_fits (meaning p).start (meaning q).start (meaning p).sys (meaning q).sys i.fit j.fit;
      told = sum_told (meaning p).start (meaning q).start (meaning p).sys (meaning q).sys (state_term p) (state_term q) i.fit i.told j.told (meaning_within p).state (meaning_within q).state;
    }
sure (Parallel p q) h =
    let w = and_parts (lawful p) (lawful q) h in
    let i = sure p w.0 in
    let j = sure q w.1 in
    let l = (meaning_within q).state in
    let pos : 0 < (meaning q).sys.n = omega arith in
    record {
      fit = parallel_fits (meaning p).sys (meaning q).sys i.fit j.fit pos;
      told = parallel_told (meaning p).sys (meaning q).sys (state_term p) (state_term q) i.fit j.fit i.told j.told pos;
    }
sure (Restrict first second p) h =
    let i = sure p (and_parts (lawful_word first && lawful_word second) (lawful p) h).1 in
    record {
      fit = restrict_fits first second (meaning p).sys i.fit;
      told = restrict_told (meaning p).sys (state_term p) i.fit i.told first second;
    }
sure (Rename class from to p) h =
    let w = and_parts (leb class 1 && (lawful_channel from && lawful_channel to)) (lawful p) h in
    let u = and_parts (leb class 1) (lawful_channel from && lawful_channel to) w.0 in
    let v = and_parts (lawful_channel from) (lawful_channel to) u.1 in
    let i = sure p w.1 in
    record {
      fit = rename_fits class from to (meaning p).sys v.1 i.fit;
      told = rename_told (meaning p).sys (state_term p) i.fit i.told class from to (leb-true class 1 u.0) (channel_lawful from v.0);
    }
sure (Raise first second p) h =
    let i = sure p (and_parts (lawful_word first && lawful_word second) (lawful p) h).1 in
    record {
      fit = raise_fits first second (meaning p).sys i.fit;
      told = raise_told (meaning p).sys (state_term p) i.fit i.told first second;
    }
sure (Lower first second p) h =
    let i = sure p (and_parts (lawful_word first && lawful_word second) (lawful p) h).1 in
    record {
      fit = lower_fits first second (meaning p).sys i.fit;
      told = lower_told (meaning p).sys (state_term p) i.fit i.told first second;
    }

pub meanings_follow_rules : MeaningsFollowRules
meanings_follow_rules p h = record {
  term = state_term p;
  itself = start_itself p;
  steps = steps_from (meaning p).sys (state_term p) (sure p h).told;
  state = (meaning_within p).state;
  range = (meaning_within p).range;
}
