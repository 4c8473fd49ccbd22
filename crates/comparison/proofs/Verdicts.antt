-- What a verdict that is not refused may read, and what it tells.
use Rattle.std.proofs.Common.{◌≡◌, ℕ, ◌*◌, ◌<◌, ◌≤◌, Bool, true, false, cond, ◌&&◌, eqb, ltb, leb, Some, None, Ok, Option, Result, refl, arith}
use Rattle.std.proofs.lemmas.Bool.{and_parts, ltb-true, leb-true}
use Rattle.comparison.specs.declared.comparison.Refusal.{Refusal}
use Rattle.comparison.specs.declared.comparison.Refusal.TheVariants.{FewCells, OtherSizes, NoSuchState}
use Rattle.comparison.specs.declared.comparison.Verdict.{Verdict}
use Rattle.comparison.specs.declared.comparison.Verdict.TheVariants.{Equal, Different}
use Rattle.comparison.specs.Comparisons.{later_fault}

passes : (b : Bool) (o : Option Refusal) (f : Refusal) → None ≡ cond b o (Some f) → (b ≡ true) × (None ≡ o)
passes true o f e = (refl, e)
passes false o f e = let z : ⊥ = grind arith in elim z [ ]

pub asked_inside : (begun : ℕ × ℕ) (n1 n2 len s t : ℕ) → None ≡ later_fault begun n1 n2 len (cond (ltb s n1 && ltb t n2) None (Some NoSuchState)) → (n1 * n2 ≤ len) × (s < n1) × (t < n2)
asked_inside begun n1 n2 len s t e =
    let p = passes (eqb begun.0 n1 && eqb begun.1 n2) _ OtherSizes e in
    let q = passes (leb (n1 * n2) len) _ FewCells p.1 in
    let r = passes (ltb s n1 && ltb t n2) None NoSuchState q.1 in
    let v = and_parts (ltb s n1) (ltb t n2) r.0 in
    (leb-true (n1 * n2) len q.0, ltb-true s n1 v.0, ltb-true t n2 v.1)

pub apart : (v : ℕ) → ◌≡◌ {A = Result Verdict Refusal} (Ok Equal) (Ok (Different v)) → ⊥
apart v e = grind arith

pub one : (u v : ℕ) → ◌≡◌ {A = Result Verdict Refusal} (Ok (Different u)) (Ok (Different v)) → u ≡ v
one u v e = grind arith

pub ok_cond : (b : Bool) (v : ℕ) → ◌≡◌ {A = Result Verdict Refusal} (Ok (cond b Equal (Different v))) (cond b (Ok Equal) (Ok (Different v)))
ok_cond true v = refl
ok_cond false v = refl
