-- From what a comparison decides to what is answered.
use Rattle.std.proofs.Common.{◌≡◌, ℕ, ◌+◌, ◌*◌, ◌<◌, ◌≤◌, Bool, true, false, cond, ◌&&◌, ltb, leb, List, length, get_or, Some, None, Option, sym, refl, ap, ◌∙◌, subst, arith}
use Rattle.std.proofs.lemmas.Bool.{eqb-true, eq-eqb, and_from, lt-ltb, leb-true}
use Rattle.theory.specs.Systems.{Lts}
use Rattle.theory.specs.Layers.{standing, standing_layer}
use Rattle.theory.specs.Designs.{Design}
use Rattle.refinement.specs.Rounds.{Rounds}
use Rattle.comparison.specs.declared.comparison.Refusal.{Refusal}
use Rattle.comparison.specs.declared.comparison.Refusal.TheVariants.{Outsize, FewCells, NoSuchState}
use Rattle.comparison.specs.declared.comparison.Verdict.{Verdict}
use Rattle.comparison.specs.declared.comparison.Verdict.TheVariants.{Equal}
use Rattle.designs.specs.Nodes.{forms, written}
use Rattle.designs.specs.Checks.{Passed}
use Rattle.designs.specs.declared.node.Node.{Node}
use Rattle.designs.proofs.DesignTables.{Good, whole_good}
use Rattle.designs.proofs.Readings.{forms_sound, whole_forms}
use Rattle.verdicts.specs.Decisions.{decide_fault, TrueOf, Final, LeftBy, DecidedCells}
use Rattle.comparing.specs.Zeros.{passing, is_zero}
use Rattle.files.specs.Layouts.{first_nodes, second_nodes}
use Rattle.files.specs.Refusals.{file_fault}
use Rattle.comparing.specs.Comparisons.{EqualPairs, Settles, Answered}
use Rattle.comparing.specs.declared.answer.Answer.{Answer}
use Rattle.comparing.specs.declared.answer.Answer.TheVariants as answers
use Rattle.comparing.specs.declared.answer.FileFault.TheVariants as faults

written_good : (xs : List Node) → Good (written xs)
written_good xs = subst Good (whole_forms xs) (whole_good (forms xs) (forms_sound xs))

pub starts : (xs : List Node) → Passed xs → (written xs).start < (written xs).sys.n
starts xs p = (written_good xs).starts p.2

-- the only question that designs with states can fail is whether there are cells enough
module _ (n1 n2 s t : ℕ) (hs : s < n1) (ht : t < n2) where
  states : (ltb 0 n1 && ltb 0 n2) ≡ true
  states = and_from (ltb 0 n1) (ltb 0 n2) (lt-ltb 0 n1 (omega arith)) (lt-ltb 0 n2 (omega arith))

  exist : (ltb s n1 && ltb t n2) ≡ true
  exist = and_from (ltb s n1) (ltb t n2) (lt-ltb s n1 hs) (lt-ltb t n2 ht)

  decide_asks : (len : ℕ) → decide_fault n1 n2 len s t ≡ cond (leb (n1 * n2) len) None (Some FewCells)
  decide_asks len = ap (λ b. cond b (cond (leb (n1 * n2) len) (cond (ltb s n1 && ltb t n2) None (Some NoSuchState)) (Some FewCells)) (Some Outsize)) states ∙ ap (λ b. cond (leb (n1 * n2) len) (cond b None (Some NoSuchState)) (Some FewCells)) exist

  enough : (b : Bool) → cond b None (Some FewCells) ≡ None → b ≡ true
  enough true e = refl
  enough false e = let z : ◌≡◌ {A = ℕ} 0 1 = cc in let w : ⊥ = omega arith in elim w [ ]

  pub room : (len : ℕ) → decide_fault n1 n2 len s t ≡ None → n1 * n2 ≤ len
  room len e = leb-true (n1 * n2) len (enough (leb (n1 * n2) len) (sym (decide_asks len) ∙ e))

-- the zero cells are the equal pairs
pub pairs_equal : (d e : Design) (cells : List ℕ) → Final standing_layer d.sys e.sys cells → EqualPairs d e (passing (is_zero cells) (d.sys.n * e.sys.n))
pairs_equal d e cells h = (
  is_zero cells,
  (λ s t hs ht.
      let f = (h s t hs ht).0 in
      (λ z. f.0 (eqb-true (get_or cells (s * e.sys.n + t) 0) 0 z), λ q. eq-eqb (get_or cells (s * e.sys.n + t) 0) 0 (f.1 q))),
  refl,
)

pub final_by : (A B : Lts) (old : List ℕ) (s t : ℕ) (new : List ℕ) → decide_fault A.n B.n (length old) s t ≡ None → DecidedCells standing_layer A B old s t new → Final standing_layer A B new
final_by A B old s t new e h = go (decide_fault A.n B.n (length old) s t) e h where
  go : (o : Option Refusal) → o ≡ None → LeftBy o standing_layer A B old new → Final standing_layer A B new
  go None e h = h.0
  go (Some f) e h = let z : ◌≡◌ {A = ℕ} 0 1 = cc in let w : ⊥ = omega arith in elim w [ ]

-- a decision between the starts s and t of the designs d and e, with 16384 cells
module _ (d e : Design) (s t : ℕ) (old cells : List ℕ) (size : length old ≡ 16384) (es : s ≡ d.start) (et : t ≡ e.start) (hd : d.start < d.sys.n) (he : e.start < e.sys.n) where
  hs : s < d.sys.n
  hs = omega arith

  ht : t < e.sys.n
  ht = omega arith

  module _ (sweeps : ℕ) (v : Verdict) (ok : decide_fault d.sys.n e.sys.n (length old) s t ≡ None) (true_of : TrueOf standing_layer d.sys e.sys s t v) (rounds : Rounds (standing d.sys) (standing e.sys) sweeps) where
    fits : d.sys.n * e.sys.n ≤ 16384
    fits = omega (arith, room d.sys.n e.sys.n s t hs ht (length old) ok)

    starts_true : TrueOf standing_layer d.sys e.sys d.start e.start v
    starts_true =
        let P : ℕ → ℕ → Type 0 = λ x y. TrueOf standing_layer d.sys e.sys x y v in
        subst (P d.start) et (subst (λ (x : ℕ). P x t) es true_of)

    pub settles_equal : DecidedCells standing_layer d.sys e.sys old s t cells → v ≡ Equal → (zeros : ℕ) → zeros ≡ passing (is_zero cells) (d.sys.n * e.sys.n) → Settles d e (answers.Equal sweeps zeros)
    settles_equal left is many count = (
      fits,
      (
        starts_true.0.0 is,
        rounds,
        subst (EqualPairs d e) (sym count) (pairs_equal d e cells (final_by d.sys e.sys old s t cells ok left)),
      ),
    )

pub settles_as : {d d' e e' : Design} (a : Answer) → d ≡ d' → e ≡ e' → Settles d e a → Settles d' e' a
settles_as {d} {d'} {e} {e'} a p q h = subst (λ (x : Design). Settles d' x a) q (subst (λ (x : Design). Settles x e a) p h)

pub starts_as : (xs : List Node) (d : Design) → d ≡ written xs → Passed xs → d.start < d.sys.n
starts_as xs d p h = subst (λ (x : Design). x.start < x.sys.n) (sym p) (starts xs h)

pub answered_by : (bytes : List ℕ) (xs ys : List Node) (a : Answer) → file_fault bytes ≡ None → xs ≡ first_nodes bytes → ys ≡ second_nodes bytes → Passed xs → Passed ys → Settles (written xs) (written ys) a → Answered bytes a
answered_by bytes xs ys a ok p q h k s =
    go a (subst Passed p h) (subst Passed q k) (settles_as a (ap written p) (ap written q) s) where
      go : (a : Answer) → Passed (first_nodes bytes) → Passed (second_nodes bytes) → Settles (written (first_nodes bytes)) (written (second_nodes bytes)) a → Answered bytes a
      go (answers.Equal sweeps many) h k s = (record { file = ok; first = h; second = k; cells = s.0 }, s.1)
      go (answers.Different sweeps round) h k s = (record { file = ok; first = h; second = k; cells = s.0 }, s.1)
      go (answers.Refused (faults.File f)) h k s = elim s [ ]
      go (answers.Refused (faults.First f)) h k s = elim s [ ]
      go (answers.Refused (faults.Second f)) h k s = elim s [ ]
      go (answers.Refused faults.FewCells) h k s = (ok, h, k, s)
