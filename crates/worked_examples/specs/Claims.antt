-- Claims about terms, and what they say of the meanings.
use Rattle.std.specs.Prelude.{◌≡◌, ℕ, List, [], ◌∷◌}
use Rattle.theory.specs.Systems.{Move}
use Rattle.theory.specs.Layers.{standing}
use Rattle.theory.specs.Designs.{EqualDesigns}
use Rattle.refinement.specs.Rounds.{StruckIn}
use Rattle.terms.specs.Terms.{Term}
use Rattle.worked_examples.specs.Meanings.{meaning}

pub data Claim : Type 0 where
  -- the two are equal
  Alike : (p q : Term) → Claim
  -- they are not, and the round strikes their starts
  Apart : (p q : Term) (round : ℕ) → Claim
  -- the start has these transitions, in this order, and no others
  Starts : (p : Term) → List Move → Claim

abbrev pub Holds : Claim → Type 0
Holds (Alike p q) = EqualDesigns (meaning p) (meaning q)
Holds (Apart p q round) =
    (EqualDesigns (meaning p) (meaning q) → ⊥)
    × StruckIn (standing (meaning p).sys) (standing (meaning q).sys) round (meaning p).start (meaning q).start
Holds (Starts p moves) = (meaning p).sys.moves (meaning p).start ≡ moves

-- the terms that a claim is about
abbrev pub terms_of : Claim → List Term
terms_of (Alike p q) = p ∷ q ∷ []
terms_of (Apart p q round) = p ∷ q ∷ []
terms_of (Starts p moves) = p ∷ []
