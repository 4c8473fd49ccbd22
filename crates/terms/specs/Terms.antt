-- Terms, and the a priori rules of Cleaveland and Hennessy for them: which term a term goes to by which action. The rules for
-- raising and lowering ask that a step does not exist, so the steps are given by recursion on the term.
use Rattle.std.specs.Prelude.{◌≡◌, ℕ, ◌≤◌, ◌⊎◌}
use Rattle.rules.specs.Actions.{code, Complementary, Passes, Renames, Names, Named}

pub data Term : Type 0 where
  Nil : Term
  Prefix : (code : ℕ) → Term → Term
  Sum : Term → Term → Term
  Parallel : Term → Term → Term
  Restrict : (first second : ℕ) → Term → Term
  Rename : (class from to : ℕ) → Term → Term
  Raise : (first second : ℕ) → Term → Term
  Lower : (first second : ℕ) → Term → Term

-- A named action of class u goes over to class v if the term is patient, and keeps its class if it is not. All others stay.
pub data Changes (u v first second : ℕ) (Patient : Type 0) : ℕ → ℕ → Type 0 where
  patient : {c p : ℕ} → Names first second c p → Patient → Changes u v first second Patient (code c p u) (code c p v)
  impatient : {c p : ℕ} → Names first second c p → (Patient → ⊥) → Changes u v first second Patient (code c p u) (code c p u)
  other : {a : ℕ} → (Named first second u a → ⊥) → Changes u v first second Patient a a

abbrev pub Step : Term → ℕ → Term → Type 0
Step Nil a q = ⊥
Step (Prefix b p) a q = (a ≡ b) × (q ≡ p)
Step (Sum p r) a q = Step p a q ⊎ Step r a q
Step (Parallel p r) a q =
    ((p' : Term) × Step p a p' × (q ≡ Parallel p' r))
    ⊎ (((r' : Term) × Step r a r' × (q ≡ Parallel p r'))
    ⊎ ((b : ℕ) × (c : ℕ) × (p' : Term) × (r' : Term) × Step p b p' × Step r c r' × Complementary a b c × (a ≤ 1) × (q ≡ Parallel p' r')))
Step (Restrict first second p) a q = (p' : Term) × Step p a p' × Passes first second a × (q ≡ Restrict first second p')
Step (Rename class from to p) a q = (b : ℕ) × (p' : Term) × Step p b p' × Renames class from to b a × (q ≡ Rename class from to p')
Step (Raise first second p) a q = (b : ℕ) × (p' : Term) × Step p b p' × Changes 0 1 first second ((x : Term) → Step p 1 x → ⊥) b a × (q ≡ Raise first second p')
Step (Lower first second p) a q = (b : ℕ) × (p' : Term) × Step p b p' × Changes 1 0 first second ((x : Term) → Step p 1 x → ⊥) b a × (q ≡ Lower first second p')
