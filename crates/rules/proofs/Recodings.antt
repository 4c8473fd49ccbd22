-- Restriction, renaming, raising, lowering, and what stands.
use Rattle.std.proofs.Common.{◌≡◌, ℕ, ◌≤◌, true, false, cond, T, map, sym, refl, ap, ◌∙◌, subst, inl, inr}
use mathlib.Core.List.Memᴰ
use mathlib.Core.List.{Memᴰ}
use Rattle.std.proofs.lemmas.Bool.{cases_Bool}
use Rattle.theory.specs.Codes.{raised, lowered, renamed}
use Rattle.theory.specs.Systems.{Move, Lts, Moves, Lawful}
use Rattle.theory.specs.Layers.{patient, Patient}
use Rattle.theory.specs.Operators.{recoded, open_move, restrict, rename, recoded_moves, raise, lower}
use Rattle.theory.proofs.Truth.{T_true, true_T}
use Rattle.theory.proofs.Members.{kept_in, kept_out}
use Rattle.theory.proofs.OperatorLaws.{Fits, fits}
use Rattle.theory.proofs.Standing.{patient_in, patient_out, stands_in, stands_out}
use Rattle.rules.specs.Actions.{Channel, code}
use Rattle.rules.specs.Rules.{RestrictionRule, restrict_passes, RenamingRule, rename_moves, RaisingRule, LoweringRule, ClassRule, class_patient, class_impatient, class_other}
use Rattle.rules.specs.Derived.{Exactly, RestrictionDerived, RenamingDerived, RaisingDerived, LoweringDerived, StandingDerived}
use Rattle.rules.proofs.Coded.{passes_in, passes_out, renames_in, renames_out, Turns, raised_turns, lowered_turns}
use Rattle.rules.proofs.Tools.{sound_move, at}

restrict_in : (first second : ℕ) (M : Lts) {s a t : ℕ} → RestrictionRule first second M s a t → Moves (restrict first second M) s a t
restrict_in first second M (restrict_passes {s} {a} {t} m p) = kept_in (open_move first second) {x = (a, t)} m (true_T (open_move first second (a, t)) (passes_in first second p))

pub restriction_exact : (first second : ℕ) (M : Lts) → Fits M → Exactly (restrict first second M) (RestrictionRule first second M)
restriction_exact first second M h = record {
  derived = λ s a t m.
      let k = kept_out (open_move first second) (M.moves s) m in
      restrict_passes k.0 (passes_out first second a (sound_move M h s a t k.0).0 (T_true (open_move first second (a, t)) k.1));
  made = λ s a t r. restrict_in first second M r;
}

pub restriction_derived : RestrictionDerived
restriction_derived first second M h = restriction_exact first second M (fits h)

rename_in : (class from to : ℕ) (M : Lts) → class ≤ 1 → Channel from → {s a t : ℕ} → RenamingRule class from to M s a t → Moves (rename class from to M) s a t
rename_in class from to M hu hc (rename_moves {s} {a} {b} {t} m r) =
    subst (λ x. Memᴰ {A = Move} (x, t) (map (recoded (renamed class from to)) (M.moves s))) (renames_in class from to hu hc r) (Memᴰ.map (recoded (renamed class from to)) m)

pub renaming_exact : (class from to : ℕ) (M : Lts) → class ≤ 1 → Channel from → Fits M → Exactly (rename class from to M) (RenamingRule class from to M)
renaming_exact class from to M hu hc h = record {
  derived = λ s a t m.
      let w = Memᴰ.of_map (recoded (renamed class from to)) (M.moves s) m in
      at (RenamingRule class from to M) refl (ap (λ (k : Move). k.0) w.2) (ap (λ (k : Move). k.1) w.2) (rename_moves w.1 (renames_out class from to w.0.0 (sound_move M h s w.0.0 w.0.1 w.1).0));
  made = λ s a t r. rename_in class from to M hu hc r;
}

pub renaming_derived : RenamingDerived
renaming_derived class from to M hu hc h = renaming_exact class from to M hu hc (fits h)

module _ (first second u v : ℕ) (f : ℕ → ℕ) (turns : Turns first second u v f) (M : Lts) (h : Fits M) where
  abbrev Rule : ℕ → ℕ → ℕ → Type 0
  Rule = ClassRule u v first second M

  abbrev Turned : Lts
  Turned = record { n = M.n; w = M.w; moves = λ s. recoded_moves f (M.moves s) }

  patient_yes : (s : ℕ) → patient (M.moves s) ≡ true → Patient M s
  patient_yes s e = patient_out (M.moves s) (true_T (patient (M.moves s)) e)

  patient_no : (s : ℕ) → patient (M.moves s) ≡ false → Patient M s → ⊥
  patient_no s e p = subst T e (patient_in (M.moves s) p)

  yes : (s : ℕ) → patient (M.moves s) ≡ true → Turned.moves s ≡ map (recoded f) (M.moves s)
  yes s e = ap (λ b. cond b (map (recoded f) (M.moves s)) (M.moves s)) e

  no : (s : ℕ) → patient (M.moves s) ≡ false → Turned.moves s ≡ M.moves s
  no s e = ap (λ b. cond b (map (recoded f) (M.moves s)) (M.moves s)) e

  patient_move : (s a t : ℕ) → patient (M.moves s) ≡ true → Moves M s a t → Rule s (f a) t
  patient_move s a t e m = elim (turns.kinds_of a (sound_move M h s a t m).0) [
    | inl d ↦
        let k = subst (λ b. Moves M s b t) d.3 m in
        at Rule refl (sym (ap f d.3 ∙ turns.turned d.2)) refl (class_patient k d.2 (patient_yes s e))
    | inr d ↦ at Rule refl (sym d.1) refl (class_other m d.0)
  ]

  impatient_move : (s a t : ℕ) → patient (M.moves s) ≡ false → Moves M s a t → Rule s a t
  impatient_move s a t e m = elim (turns.kinds_of a (sound_move M h s a t m).0) [
    | inl d ↦
        let k = subst (λ b. Moves M s b t) d.3 m in
        at Rule refl (sym d.3) refl (class_impatient k d.2 (patient_no s e))
    | inr d ↦ class_other m d.0
  ]

  class_out : (s a t : ℕ) → Moves Turned s a t → Rule s a t
  class_out s a t m = elim (cases_Bool (patient (M.moves s))) [
    | inl e ↦
        let w = Memᴰ.of_map (recoded f) (M.moves s) (subst (Memᴰ {A = Move} (a, t)) (yes s e) m) in
        at Rule refl (ap (λ (k : Move). k.0) w.2) (ap (λ (k : Move). k.1) w.2) (patient_move s w.0.0 w.0.1 e w.1)
    | inr e ↦ impatient_move s a t e (subst (Memᴰ {A = Move} (a, t)) (no s e) m)
  ]

  moved : (s a b t : ℕ) → patient (M.moves s) ≡ true → f a ≡ b → Moves M s a t → Moves Turned s b t
  moved s a b t e g m = subst (Memᴰ {A = Move} (b, t)) (sym (yes s e)) (subst (λ x. Memᴰ {A = Move} (x, t) (map (recoded f) (M.moves s))) g (Memᴰ.map (recoded f) m))

  kept : (s a t : ℕ) → patient (M.moves s) ≡ false → Moves M s a t → Moves Turned s a t
  kept s a t e m = subst (Memᴰ {A = Move} (a, t)) (sym (no s e)) m

  class_in : {s a t : ℕ} → Rule s a t → Moves Turned s a t
  class_in (class_patient {s} {c} {p} {t} m n q) = moved s (code c p u) (code c p v) t (T_true (patient (M.moves s)) (patient_in (M.moves s) q)) (turns.turned n) m
  class_in (class_impatient {s} {c} {p} {t} m n q) = elim (cases_Bool (patient (M.moves s))) [
    | inl e ↦ absurd (q (patient_yes s e))
    | inr e ↦ kept s (code c p u) t e m
  ]
  class_in (class_other {s} {a} {t} m n) = elim (cases_Bool (patient (M.moves s))) [
    | inl e ↦ moved s a a t e (elim (turns.kinds_of a (sound_move M h s a t m).0) [ inl d ↦ absurd (n d) | inr d ↦ d.1 ]) m
    | inr e ↦ kept s a t e m
  ]

  class_exact : Exactly Turned Rule
  class_exact = record { derived = class_out; made = λ s a t r. class_in r }

pub class_derived : (first second u v : ℕ) (f : ℕ → ℕ) → Turns first second u v f → (M : Lts) → Lawful M
    → Exactly (record { n = M.n; w = M.w; moves = λ s. recoded_moves f (M.moves s) }) (ClassRule u v first second M)
class_derived first second u v f turns M h = class_exact first second u v f turns M (fits h)

pub raising_exact : (first second : ℕ) (M : Lts) → Fits M → Exactly (raise first second M) (RaisingRule first second M)
raising_exact first second M h = class_exact first second 0 1 (raised first second) (raised_turns first second) M h

pub raising_derived : RaisingDerived
raising_derived first second M h = class_derived first second 0 1 (raised first second) (raised_turns first second) M h

pub lowering_exact : (first second : ℕ) (M : Lts) → Fits M → Exactly (lower first second M) (LoweringRule first second M)
lowering_exact first second M h = class_exact first second 1 0 (lowered first second) (lowered_turns first second) M h

pub lowering_derived : LoweringDerived
lowering_derived first second M h = class_derived first second 1 0 (lowered first second) (lowered_turns first second) M h

pub standing_derived : StandingDerived
standing_derived M = record { derived = stands_out M; made = stands_in M }
