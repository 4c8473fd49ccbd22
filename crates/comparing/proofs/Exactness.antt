-- What the answer says of the designs, from what it was answered for.
use Rattle.std.proofs.Common.{◌≡◌, ℕ, List, Some, None, Option, arith}
use Rattle.std.proofs.lemmas.Bool.{both_ways}
use Rattle.designs.specs.Checks.{Passed, FirstFault}
use Rattle.designs.specs.Checks as checks
use Rattle.designs.specs.Refusals.{place}
use Rattle.designs.specs.declared.node.Node.{Node}
use Rattle.designs.specs.declared.refusal.NodeRefusal.{NodeRefusal}
use Rattle.designs.specs.declared.refusal.NodeRefusal.TheVariants.{Count, Kind, Children, Fields, Outsize}
use Rattle.designs.proofs.Checking.{blank}
use Rattle.comparing.specs.Comparisons.{Comparable, Answered, Exact}
use Rattle.comparing.specs.declared.answer.Answer.{Answer}
use Rattle.comparing.specs.declared.answer.Answer.TheVariants.{Equal, Different, Refused}
use Rattle.comparing.specs.declared.answer.FileFault.{FileFault}
use Rattle.comparing.specs.declared.answer.FileFault.TheVariants.{File, First, Second, FewCells}

none_some : {F : Type 0} {o : Option F} {f : F} → o ≡ None → o ≡ Some f → ⊥
none_some p q = let z : ◌≡◌ {A = ℕ} 0 1 = cc in omega arith

first_passed : (xs : List Node) (f : NodeRefusal) → Passed xs → FirstFault xs f → ⊥
first_passed xs f p q = none_some (p.1 (place f) blank q.0) (q.2 blank)

pub passed_refused : (xs : List Node) (f : NodeRefusal) → Passed xs → checks.Refused xs f → ⊥
passed_refused xs Count p q = both_ways _ q p.0
passed_refused xs (Kind i) p q = first_passed xs (Kind i) p q.1
passed_refused xs (Children i) p q = first_passed xs (Children i) p q.1
passed_refused xs (Fields i) p q = first_passed xs (Fields i) p q.1
passed_refused xs (Outsize i) p q = omega (arith, p.2, q.3)

refused_incomparable : (bytes : List ℕ) (f : FileFault) → Answered bytes (Refused f) → Comparable bytes → ⊥
refused_incomparable bytes (File f) a c = none_some c.file a
refused_incomparable bytes (First f) a c = passed_refused _ f c.first a.1
refused_incomparable bytes (Second f) a c = passed_refused _ f c.second a.2
refused_incomparable bytes FewCells a c = omega (arith, a.3, c.cells)

pub answered_exact : (bytes : List ℕ) (a : Answer) → Answered bytes a → Exact bytes a
answered_exact bytes (Equal sweeps zeros) h = ((λ _. (h.0, h.1.0), λ _. tt), (λ z. elim z [ ], λ q. q.1 h.1.0))
answered_exact bytes (Different sweeps round) h = ((λ z. elim z [ ], λ q. h.1.0 q.1), (λ _. (h.0, h.1.0), λ _. tt))
answered_exact bytes (Refused f) h = ((λ z. elim z [ ], λ q. refused_incomparable bytes f h q.0), (λ z. elim z [ ], λ q. refused_incomparable bytes f h q.0))
