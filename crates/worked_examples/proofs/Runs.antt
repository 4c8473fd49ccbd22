-- A run of the comparison, computed: sweep after sweep over the cells, until one writes nothing.
use Rattle.std.proofs.Common.{◌≡◌, ℕ, zero, suc, ◌+◌, ◌*◌, ◌<◌, Bool, true, false, eqb, List, map, get_or, replicate, arith}
use Rattle.std.specs.List.{range_with_len}
use Rattle.std.proofs.lemmas.List.FromFn.{get_or-map-range_with_len}
use Rattle.std.proofs.lemmas.List.{get_or-replicate}
use Rattle.std.proofs.lemmas.Bool.{false≢true, eqb-true}
use Rattle.theory.specs.Systems.{Lts}
use Rattle.theory.specs.Bisimulations.{Bisimilar}
use Rattle.refinement.specs.Cells.{next_cell}
use Rattle.refinement.specs.Rounds.{InRange, StruckIn}
use Rattle.refinement.specs.Runs.{pairs, writes, Run, begun, swept}
use Rattle.refinement.proofs.Runs.{runs_exact}

abbrev sweep : Lts → Lts → ℕ → List ℕ → List ℕ
sweep M N r cells = map (next_cell M N cells r) (range_with_len 0 (pairs M N))

-- Within so many sweeps one writes nothing, and the cell i is v then. (The cases wait for the test, so that no further sweep is
-- computed.)
abbrev settles : (M N : Lts) → (i v sweeps made : ℕ) → List ℕ → Bool
settles M N i v zero made cells = false
settles M N i v (suc left) made cells = elim (writes M N (made + 1) cells) [
  | true ↦ settles M N i v left (made + 1) (sweep M N (made + 1) cells)
  | false ↦ eqb (get_or (sweep M N (made + 1) cells) i 0) v
]

-- the run from its beginning, of the pair of s and t
abbrev pub leaves : Lts → Lts → ℕ → ℕ → ℕ → Bool
leaves M N s t v = settles M N (s * N.n + t) v (pairs M N + 1) 0 (replicate (pairs M N) 0)

module _ (M N : Lts) (i v : ℕ) where
  abbrev Settled : Type 0
  Settled = (made : ℕ) × (cells : List ℕ) × Run M N false made cells × (get_or cells i 0 ≡ v)

  settled : (left made : ℕ) (cells : List ℕ) → Run M N true made cells → settles M N i v left made cells ≡ true → Settled
  settled zero made cells run h = absurd (false≢true h)
  settled (suc left) made cells run h = go (settled left (made + 1) new) (writes M N (made + 1) cells) next h
    where
      new : List ℕ
      new = sweep M N (made + 1) cells

      next : Run M N (writes M N (made + 1) cells) (made + 1) new
      next = swept run (λ j l. get_or-map-range_with_len (next_cell M N cells (made + 1)) 0 (pairs M N) j j 0 l (omega arith))

      go : (Run M N true (made + 1) new → settles M N i v left (made + 1) new ≡ true → Settled)
          → (b : Bool) → Run M N b (made + 1) new
          → (elim b as (λ _. Bool) [ true ↦ settles M N i v left (made + 1) new | false ↦ eqb (get_or new i 0) v ]) ≡ true → Settled
      go on true r e = on r e
      go on false r e = (made + 1, new, r, eqb-true (get_or new i 0) v e)

module _ (M N : Lts) (rM : InRange M) (rN : InRange N) (s t : ℕ) (ls : s < M.n) (lt : t < N.n) where
  run_of : (v : ℕ) → leaves M N s t v ≡ true → Settled M N (s * N.n + t) v
  run_of v h = settled M N (s * N.n + t) v (pairs M N + 1) 0 (replicate (pairs M N) 0) (begun (λ i l. get_or-replicate (pairs M N) i 0 0 l)) h

  pub leaves_alike : leaves M N s t 0 ≡ true → Bisimilar M N s t
  leaves_alike h = let w = run_of 0 h in (runs_exact M N rM rN w.0 w.1 w.2 s t ls lt).0.0 w.3

  pub leaves_struck : (k : ℕ) → leaves M N s t (suc k) ≡ true → StruckIn M N (suc k) s t
  leaves_struck k h = let w = run_of (suc k) h in ((runs_exact M N rM rN w.0 w.1 w.2 s t ls lt).1 k).0 w.3
