-- A test of a claim, and that it tells: the theorem about the whole list is one computation.
use Rattle.std.proofs.Common.{◌≡◌, ℕ, zero, suc, Bool, true, false, ◌&&◌, eqb, List, [], ◌∷◌, refl, ap₂}
use Rattle.std.specs.List.{flat_map, AllByRecursion}
use Rattle.std.proofs.lemmas.Bool.{false≢true, and_parts, eqb-true}
use Rattle.theory.specs.Systems.{Move}
use Rattle.theory.specs.Layers.{standing}
use Rattle.theory.proofs.Standing.{stands_out}
use Rattle.refinement.specs.Rounds.{InRange, StruckIn}
use Rattle.refinement.proofs.Rounds.{bisimilar_kept}
use Rattle.terms.specs.Terms.{Term}
use Rattle.worked_examples.specs.Meanings.{meaning, lawful, LawfulTerm}
use Rattle.worked_examples.specs.Claims.{Claim, Alike, Apart, Starts, Holds, terms_of}
use Rattle.worked_examples.specs.Examples.{examples}
use Rattle.worked_examples.proofs.Meanings.{meaning_within}
use Rattle.worked_examples.proofs.Runs.{leaves, leaves_alike, leaves_struck}

module _ {X : Type 0} where
  abbrev every : (X → Bool) → List X → Bool
  every test [] = true
  every test (x ∷ xs) = test x && every test xs

  every_all : (P : X → Type 0) (test : X → Bool) → ((x : X) → test x ≡ true → P x) → (xs : List X) → every test xs ≡ true → AllByRecursion P xs
  every_all P test tells [] h = tt
  every_all P test tells (x ∷ xs) h = let w = and_parts (test x) (every test xs) h in (tells x w.0, every_all P test tells xs w.1)

abbrev same_moves : List Move → List Move → Bool
same_moves [] [] = true
same_moves [] (k ∷ ks) = false
same_moves (m ∷ ms) [] = false
same_moves (m ∷ ms) (k ∷ ks) = (eqb m.0 k.0 && eqb m.1 k.1) && same_moves ms ks

same_tells : (ms ks : List Move) → same_moves ms ks ≡ true → ms ≡ ks
same_tells [] [] h = refl
same_tells [] (k ∷ ks) h = absurd (false≢true h)
same_tells (m ∷ ms) [] h = absurd (false≢true h)
same_tells (m ∷ ms) (k ∷ ks) h =
    let w = and_parts (eqb m.0 k.0 && eqb m.1 k.1) (same_moves ms ks) h in
    let u = and_parts (eqb m.0 k.0) (eqb m.1 k.1) w.0 in
    let e : m ≡ k = λ i. (eqb-true m.0 k.0 u.0 i, eqb-true m.1 k.1 u.1 i) in
    ap₂ {C = List Move} ◌∷◌ e (same_tells ms ks w.1)

-- the run on what stands leaves v for the starts
abbrev verdict : Term → Term → ℕ → Bool
verdict p q v = leaves (standing (meaning p).sys) (standing (meaning q).sys) (meaning p).start (meaning q).start v

abbrev check : Claim → Bool
check (Alike p q) = verdict p q 0
check (Apart p q zero) = false
check (Apart p q (suc k)) = verdict p q (suc k)
check (Starts p moves) = same_moves ((meaning p).sys.moves (meaning p).start) moves

standing_range : (p : Term) → InRange (standing (meaning p).sys)
standing_range p s a t l m = (meaning_within p).range s a t l (stands_out (meaning p).sys s a t m).0

check_tells : (c : Claim) → check c ≡ true → Holds c
check_tells (Alike p q) h =
    leaves_alike (standing (meaning p).sys) (standing (meaning q).sys) (standing_range p) (standing_range q)
    (meaning p).start (meaning q).start (meaning_within p).state (meaning_within q).state h
check_tells (Apart p q zero) h = absurd (false≢true h)
check_tells (Apart p q (suc k)) h =
    let M = standing (meaning p).sys in
    let N = standing (meaning q).sys in
    let s = (meaning p).start in
    let t = (meaning q).start in
    let struck : StruckIn M N (suc k) s t = leaves_struck M N (standing_range p) (standing_range q) s t (meaning_within p).state (meaning_within q).state k h in
    ((λ e. struck.1 (bisimilar_kept M N (suc k) s t e)), struck)
check_tells (Starts p moves) h = same_tells ((meaning p).sys.moves (meaning p).start) moves h

pub all_hold : AllByRecursion Holds examples
all_hold = every_all Holds check check_tells examples refl

pub all_lawful : AllByRecursion LawfulTerm (flat_map terms_of examples)
all_lawful = every_all LawfulTerm lawful (λ p h. h) (flat_map terms_of examples) refl
