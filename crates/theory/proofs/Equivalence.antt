-- Bisimilarity of any systems is an equivalence, and so equality under a layer is one.
use Rattle.std.proofs.Common.{ℕ, ◌<◌, Bool, ◌&&◌, T, eqb, sym, subst, eqb→eq}
use lib.Dec.{eqb_refl}
use Rattle.theory.specs.Systems.{Lts, Moves, Sound}
use Rattle.theory.specs.Layers.{Layering, keeps_move, shown}
use Rattle.theory.specs.Bisimulations.{Answers, Bisimulation, Bisimilar}
use Rattle.theory.specs.Equivalence.{InRange, LawfulInRange, Reflexive, Symmetric, Transitive}
use Rattle.theory.proofs.Truth.{and_pair, pair_and, any_below, any_below_in, any_below_out}
use Rattle.theory.proofs.Members.{kept_out, all_member}

pub lawful_in_range : LawfulInRange
lawful_in_range M law s a t l m = (all_member (Sound M.n) (law.sound s) m).1

pub shown_in_range : (y : Layering) (M : Lts) → InRange M → InRange (shown y M)
shown_in_range y M range s a t l m = range s a t l (kept_out (keeps_move y (y.calm (M.moves s))) (M.moves s) m).0

pub bisimilar_reflexive : (M : Lts) (s : ℕ) → Bisimilar M M s s
bisimilar_reflexive M s = (eqb, record { there = go; back = goes }, eqb_refl s)
  where
    go : (s t : ℕ) → T (eqb s t) → Answers M M (λ x y. T (eqb x y)) s t
    go s t r a s' m = (s', subst (λ x. Moves M x a s') (eqb→eq s t r) m, eqb_refl s')

    goes : (s t : ℕ) → T (eqb s t) → Answers M M (λ y x. T (eqb x y)) t s
    goes s t r a t' m = (t', subst (λ x. Moves M x a t') (sym (eqb→eq s t r)) m, eqb_refl t')

pub flipped : {M N : Lts} {R : ℕ → ℕ → Type 0} → Bisimulation M N R → Bisimulation N M (λ y x. R x y)
flipped b = record { there = λ s t. b.back t s; back = λ s t. b.there t s }

pub bisimilar_symmetric : (M N : Lts) (s t : ℕ) → Bisimilar M N s t → Bisimilar N M t s
bisimilar_symmetric M N s t e = (λ x y. e.0 y x, flipped e.1, e.2)

pub bisimilar_transitive : (L M N : Lts) → InRange M → (s t u : ℕ) → t < M.n → Bisimilar L M s t → Bisimilar M N t u → Bisimilar L N s u
bisimilar_transitive L M N range s t u within e f = (R, record { there = go; back = goes }, any_below_in _ M.n t within (pair_and (e.0 s t) (f.0 t u) e.2 f.2))
  where
    R : ℕ → ℕ → Bool
    R x z = any_below (λ y. e.0 x y && f.0 y z) M.n

    join : (x y z : ℕ) → y < M.n → T (e.0 x y) → T (f.0 y z) → T (R x z)
    join x y z l p q = any_below_in _ M.n y l (pair_and (e.0 x y) (f.0 y z) p q)

    go : (x z : ℕ) → T (R x z) → Answers L N (λ x z. T (R x z)) x z
    go x z r a x' m =
        let w = any_below_out _ M.n r in
        let pq = and_pair (e.0 x w.0) (f.0 w.0 z) w.2 in
        let v = e.1.there x w.0 pq.0 a x' m in
        let k = f.1.there w.0 z pq.1 a v.0 v.1 in
        (k.0, k.1, join x' v.0 k.0 (range w.0 a v.0 w.1 v.1) v.2 k.2)

    goes : (x z : ℕ) → T (R x z) → Answers N L (λ z x. T (R x z)) z x
    goes x z r a z' m =
        let w = any_below_out _ M.n r in
        let pq = and_pair (e.0 x w.0) (f.0 w.0 z) w.2 in
        let v = f.1.back w.0 z pq.1 a z' m in
        let k = e.1.back x w.0 pq.0 a v.0 v.1 in
        (k.0, k.1, join k.0 v.0 z' (range w.0 a v.0 w.1 v.1) k.2 v.2)

pub reflexive : Reflexive
reflexive y M s = bisimilar_reflexive (shown y M) s

pub symmetric : Symmetric
symmetric y M N s t e = bisimilar_symmetric (shown y M) (shown y N) s t e

pub transitive : Transitive
transitive y L M N range s t u l e f = bisimilar_transitive (shown y L) (shown y M) (shown y N) (shown_in_range y M range) s t u l e f
