-- Equal states may be exchanged in every expression: by induction, an operator at a time.
use Rattle.std.proofs.Common.{ℕ, ◌<◌, refl, inl, inr}
use Rattle.theory.specs.Systems.{Lts}
use Rattle.theory.specs.Designs.{EqualDesigns}
use Rattle.theory.specs.Layers.{standing_layer}
use Rattle.theory.specs.Operators
use Rattle.theory.specs.Equivalence.{InRange}
use Rattle.theory.proofs.Equivalence.{reflexive}
use Rattle.congruence.specs.Congruences.{Within}
use Rattle.congruence.specs.Expressions.{Expression, nil, socket, prefix, sum, parallel, restrict, rename, raise, lower, reading, Uses, Exchangeable, Exchange}
use Rattle.congruence.proofs.Recodings.{restrict_congruence, rename_congruence, raise_congruence, lower_congruence}
use Rattle.congruence.proofs.Sums.{prefix_congruence, sum_congruence}
use Rattle.congruence.proofs.Parallels.{parallel_congruence}
use Rattle.congruence.proofs.Ranges.{within_nil, within_prefix, within_sum, within_parallel, within_restrict, within_rename, within_raise, within_lower}

module _ (M : Lts) (range : InRange M) where
  pub reading_within : (p : ℕ → ℕ) (e : Expression) → ((i : ℕ) → Uses e i → p i < M.n) → Within (reading M p e).sys (reading M p e).start
  reading_within p nil h = within_nil
  reading_within p (socket i) h = record { state = h i refl; range = range }
  reading_within p (prefix a e) h = within_prefix a (reading M p e).sys (reading M p e).start (reading_within p e h)
  reading_within p (sum d e) h = within_sum (reading M p d).sys (reading M p e).sys (reading M p d).start (reading M p e).start
      (reading_within p d (λ i u. h i (inl u))) (reading_within p e (λ i u. h i (inr u)))
  reading_within p (parallel d e) h = within_parallel (reading M p d).sys (reading M p e).sys (reading M p d).start (reading M p e).start
      (reading_within p d (λ i u. h i (inl u))) (reading_within p e (λ i u. h i (inr u)))
  reading_within p (restrict first second e) h = within_restrict first second (reading M p e).sys (reading M p e).start (reading_within p e h)
  reading_within p (rename class from to e) h = within_rename class from to (reading M p e).sys (reading M p e).start (reading_within p e h)
  reading_within p (raise first second e) h = within_raise first second (reading M p e).sys (reading M p e).start (reading_within p e h)
  reading_within p (lower first second e) h = within_lower first second (reading M p e).sys (reading M p e).start (reading_within p e h)

  module _ (p q : ℕ → ℕ) where
    old_within : (e : Expression) → ((i : ℕ) → Uses e i → Exchangeable M (p i) (q i)) → Within (reading M p e).sys (reading M p e).start
    old_within e h = reading_within p e (λ i u. (h i u).old)

    new_within : (e : Expression) → ((i : ℕ) → Uses e i → Exchangeable M (p i) (q i)) → Within (reading M q e).sys (reading M q e).start
    new_within e h = reading_within q e (λ i u. (h i u).new)

    pub exchanged : (e : Expression) → ((i : ℕ) → Uses e i → Exchangeable M (p i) (q i)) → EqualDesigns (reading M p e) (reading M q e)
    exchanged nil h = reflexive standing_layer Operators.nil 0
    exchanged (socket i) h = (h i refl).equal
    exchanged (prefix a e) h = prefix_congruence a (reading M p e).sys (reading M q e).sys (reading M p e).start (reading M q e).start (exchanged e h)
    exchanged (sum d e) h =
        let g : (i : ℕ) → Uses d i → Exchangeable M (p i) (q i) = λ i u. h i (inl u) in
        let k : (i : ℕ) → Uses e i → Exchangeable M (p i) (q i) = λ i u. h i (inr u) in
        sum_congruence (reading M p d).sys (reading M q d).sys (reading M p e).sys (reading M q e).sys
        (reading M p d).start (reading M q d).start (reading M p e).start (reading M q e).start
        (old_within d g) (new_within d g) (exchanged d g) (exchanged e k)
    exchanged (parallel d e) h =
        let g : (i : ℕ) → Uses d i → Exchangeable M (p i) (q i) = λ i u. h i (inl u) in
        let k : (i : ℕ) → Uses e i → Exchangeable M (p i) (q i) = λ i u. h i (inr u) in
        parallel_congruence (reading M p d).sys (reading M q d).sys (reading M p e).sys (reading M q e).sys
        (reading M p d).start (reading M q d).start (reading M p e).start (reading M q e).start
        (old_within d g) (new_within d g) (old_within e k) (new_within e k) (exchanged d g) (exchanged e k)
    exchanged (restrict first second e) h = restrict_congruence first second (reading M p e).sys (reading M q e).sys (reading M p e).start (reading M q e).start (exchanged e h)
    exchanged (rename class from to e) h = rename_congruence class from to (reading M p e).sys (reading M q e).sys (reading M p e).start (reading M q e).start (exchanged e h)
    exchanged (raise first second e) h = raise_congruence first second (reading M p e).sys (reading M q e).sys (reading M p e).start (reading M q e).start (exchanged e h)
    exchanged (lower first second e) h = lower_congruence first second (reading M p e).sys (reading M q e).sys (reading M p e).start (reading M q e).start (exchanged e h)

pub exchange : Exchange
exchange M range p q e h = exchanged M range p q e h
