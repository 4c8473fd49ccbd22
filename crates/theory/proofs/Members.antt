-- Members of filtered and of chosen lists, and what holds of every member.
use Rattle.std.proofs.Common.{◌≡◌, Bool, true, false, cond, not, T, List, [], ◌∷◌, filter, sym, refl, ap, ◌∙◌, subst, inl, inr}
use mathlib.Core.List.Memᴰ
use mathlib.Core.List.{Memᴰ}
use Rattle.std.specs.List.{AllByRecursion}

pub kept_in : {X : Type 0} (p : X → Bool) {x : X} {xs : List X} → Memᴰ x xs → T (p x) → Memᴰ x (filter p xs)
kept_in p {x} (Memᴰ.head {x = y} {xs = ys} e) h = go (p y) (subst (λ z. T (p z)) e h)
  where
    go : (b : Bool) → T b → Memᴰ x (cond b (y ∷ filter p ys) (filter p ys))
    go true h = Memᴰ.head e
    go false h = absurd h
kept_in p {x} (Memᴰ.tail {x = y} {xs = ys} m) h = go (p y) (kept_in p m h)
  where
    go : (b : Bool) → Memᴰ x (filter p ys) → Memᴰ x (cond b (y ∷ filter p ys) (filter p ys))
    go true k = Memᴰ.tail k
    go false k = k

pub kept_out : {X : Type 0} (p : X → Bool) {x : X} (xs : List X) → Memᴰ x (filter p xs) → Memᴰ x xs × T (p x)
kept_out p [] m = absurd (Memᴰ.not-nil m)
kept_out p {x} (y ∷ ys) m = go (kept_out p ys) (p y) refl m
  where
    go : (Memᴰ x (filter p ys) → Memᴰ x ys × T (p x)) → (b : Bool) → p y ≡ b → Memᴰ x (cond b (y ∷ filter p ys) (filter p ys)) → Memᴰ x (y ∷ ys) × T (p x)
    go below true e k = elim (Memᴰ.cases_cons k) [
      | inl f ↦ (Memᴰ.head f, subst T (sym (ap p f ∙ e)) tt)
      | inr l ↦ let r = below l in (Memᴰ.tail r.0, r.1)
    ]
    go below false e k = let r = below k in (Memᴰ.tail r.0, r.1)

pub all_member : {X : Type 0} (P : X → Type 0) {x : X} {xs : List X} → AllByRecursion P xs → Memᴰ x xs → P x
all_member P a (Memᴰ.head e) = subst P (sym e) a.0
all_member P a (Memᴰ.tail m) = all_member P a.1 m

-- a member of one list or another, by a test
pub cond_first : {X : Type 0} (b : Bool) {x : X} (xs ys : List X) → T b → Memᴰ x xs → Memᴰ x (cond b xs ys)
cond_first true xs ys h m = m
cond_first false xs ys h m = absurd h

pub cond_second : {X : Type 0} (b : Bool) {x : X} (xs ys : List X) → T (not b) → Memᴰ x ys → Memᴰ x (cond b xs ys)
cond_second true xs ys h m = absurd h
cond_second false xs ys h m = m

pub first_cond : {X : Type 0} (b : Bool) {x : X} (xs ys : List X) → T b → Memᴰ x (cond b xs ys) → Memᴰ x xs
first_cond true xs ys h m = m
first_cond false xs ys h m = absurd h

pub second_cond : {X : Type 0} (b : Bool) {x : X} (xs ys : List X) → T (not b) → Memᴰ x (cond b xs ys) → Memᴰ x ys
second_cond true xs ys h m = absurd h
second_cond false xs ys h m = m
