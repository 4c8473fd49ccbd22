-- The codes taken apart: the tests of the operators' definitions and the relations of the rules say the same of lawful codes.
use Rattle.std.proofs.Common.{◌≡◌, ℕ, ◌+◌, ◌-◌, ◌*◌, ◌/◌, ◌%◌, ◌^◌, ◌<◌, ◌≤◌, Bool, true, false, cond, not, ◌&&◌, eqb, ◌⊎◌, sym, ap, ◌∙◌, subst, inl, inr, arith}
use Rattle.std.proofs.lemmas.Nat.{mod_below}
use Rattle.std.proofs.lemmas.Bool.Decides.{nat_tests}
use Rattle.std.proofs.lemmas.Bool.{cases_lt, cases_eq, cases_Bool, le-leb, eq-eqb, ne_eqb}
use Rattle.theory.specs.Codes.{lawful_code, visible, prioritised, co_name, meets, has_channel, barred, listed, raised, lowered, renamed}
use Rattle.rules.specs.Actions.{Channel, code, Complementary, name_left, name_right, Holds, Passes, inner_passes, unprioritised_passes, prioritised_passes, Renames, inner_stays, renamed as moved, channel_stays, class_stays, Names, by_first, by_second, Named}

-- channel, polarity and class of a code
pub record Parts (c p u : ℕ) : Type 0 where
  pub channel : code c p u / 4 ≡ c
  pub polarity : code c p u / 2 % 2 ≡ p
  pub class : code c p u % 2 ≡ u
  pub seen : 4 ≤ code c p u

pub parts : (c p u : ℕ) → 1 ≤ c → p ≤ 1 → u ≤ 1 → Parts c p u
parts c p u hc hp hu = record { channel = omega arith; polarity = omega arith; class = omega arith; seen = omega arith }

pub record Visible (a : ℕ) : Type 0 where
  pub channel : Channel (a / 4)
  pub polarity : a / 2 % 2 ≤ 1
  pub class : a % 2 ≤ 1
  pub whole : a ≡ code (a / 4) (a / 2 % 2) (a % 2)

pub kinds : (a : ℕ) → lawful_code a ≡ true → (a ≤ 1) ⊎ Visible a
kinds a h = elim (cases_lt a 2) [
  | inl l ↦ inl (omega arith)
  | inr g ↦
      let low : 4 ≤ a = grind (arith, nat_tests) in
      let high : a ≤ 243 = grind (arith, nat_tests) in
      inr (record { channel = (omega arith, omega arith); polarity = omega arith; class = omega arith; whole = omega arith })
]

pub two : (x : ℕ) → x ≤ 1 → (x ≡ 0) ⊎ (x ≡ 1)
two x h = elim (cases_lt x 1) [ inl l ↦ inl (omega arith) | inr g ↦ inr (omega arith) ]

visible_yes : (a : ℕ) → 4 ≤ a → visible a ≡ true
visible_yes a h = le-leb 4 a h

co_name_by : (a p : ℕ) → 4 ≤ a → a / 2 % 2 ≡ p → co_name a ≡ eqb p 1
co_name_by a p h e = ap (λ b. b && eqb (a / 2 % 2) 1) (visible_yes a h) ∙ ap (λ x. eqb x 1) e

pub meets_out : (a b : ℕ) → lawful_code a ≡ true → lawful_code b ≡ true → meets a b ≡ true → Complementary (a % 2) a b
meets_out a b ha hb m = elim (kinds a ha) [
  | inl l ↦ let z : ⊥ = grind (arith, nat_tests) in absurd z
  | inr v ↦
      let c : a / 4 ≡ b / 4 = grind (arith, nat_tests) in
      let u : a % 2 ≡ b % 2 = grind (arith, nat_tests) in
      let d : a / 2 % 2 ≡ b / 2 % 2 → ⊥ = grind (arith, nat_tests) in
      let pb : b / 2 % 2 < 2 = mod_below (b / 2) 2 (omega arith) in
      elim (two (a / 2 % 2) v.polarity) [
        | inl z ↦
            let o : b / 2 % 2 ≡ 1 = elim (two (b / 2 % 2) (omega arith)) [ inl y ↦ absurd (d (z ∙ sym y)) | inr y ↦ y ] in
            let e : code (a / 4) 0 (a % 2) ≡ a = omega (arith, v.whole) in
            let f : code (a / 4) 1 (a % 2) ≡ b = omega arith in
            subst (λ x. Complementary (a % 2) x b) e (subst (Complementary (a % 2) (code (a / 4) 0 (a % 2))) f (name_left v.channel))
        | inr z ↦
            let o : b / 2 % 2 ≡ 0 = elim (two (b / 2 % 2) (omega arith)) [ inl y ↦ y | inr y ↦ absurd (d (z ∙ sym y)) ] in
            let e : code (a / 4) 1 (a % 2) ≡ a = omega (arith, v.whole) in
            let f : code (a / 4) 0 (a % 2) ≡ b = omega arith in
            subst (λ x. Complementary (a % 2) x b) e (subst (Complementary (a % 2) (code (a / 4) 1 (a % 2))) f (name_right v.channel))
      ]
]

pub meets_in : (u : ℕ) → u ≤ 1 → {a b : ℕ} → Complementary u a b → (meets a b ≡ true) × (a % 2 ≡ u)
meets_in u hu (name_left {c} h) =
    let x = parts c 0 u h.0 (omega arith) hu in
    let y = parts c 1 u h.0 (omega arith) hu in
    (grind (arith, nat_tests, x.channel, x.polarity, x.class, x.seen, y.channel, y.polarity, y.class, y.seen), x.class)
meets_in u hu (name_right {c} h) =
    let x = parts c 1 u h.0 (omega arith) hu in
    let y = parts c 0 u h.0 (omega arith) hu in
    (grind (arith, nat_tests, x.channel, x.polarity, x.class, x.seen, y.channel, y.polarity, y.class, y.seen), x.class)

pub passes_out : (first second a : ℕ) → lawful_code a ≡ true → not (barred first second a) ≡ true → Passes first second a
passes_out first second a h o = elim (kinds a h) [
  | inl l ↦ inner_passes l
  | inr v ↦
      let low : 4 ≤ a = omega (arith, v.channel.0) in
      elim (two (a % 2) v.class) [
        | inl z ↦
            let e : code (a / 4) (a / 2 % 2) 0 ≡ a = omega (arith, v.whole) in
            let n : Holds first (a / 4) → ⊥ = λ y. let w : ⊥ = grind (arith, nat_tests) in absurd w in
            subst (Passes first second) e (unprioritised_passes v.channel v.polarity n)
        | inr z ↦
            let e : code (a / 4) (a / 2 % 2) 1 ≡ a = omega (arith, v.whole) in
            let n : Holds second (a / 4) → ⊥ = λ y. let w : ⊥ = grind (arith, nat_tests) in absurd w in
            subst (Passes first second) e (prioritised_passes v.channel v.polarity n)
      ]
]

pub passes_in : (first second : ℕ) {a : ℕ} → Passes first second a → not (barred first second a) ≡ true
passes_in first second (inner_passes l) = grind (arith, nat_tests)
passes_in first second (unprioritised_passes {c} {p} h hp n) =
    let x = parts c p 0 h.0 hp (omega arith) in
    let e : has_channel first (code c p 0 / 4) ≡ false = ap (has_channel first) x.channel ∙ ne_eqb (first / 2 ^ c % 2) 1 n in
    grind (arith, nat_tests, x.class, x.seen, e)
passes_in first second (prioritised_passes {c} {p} h hp n) =
    let x = parts c p 1 h.0 hp (omega arith) in
    let e : has_channel second (code c p 1 / 4) ≡ false = ap (has_channel second) x.channel ∙ ne_eqb (second / 2 ^ c % 2) 1 n in
    grind (arith, nat_tests, x.class, x.seen, e)

module _ (class from to : ℕ) where
  abbrev moves_channel : ℕ → Bool
  moves_channel a = visible a && (eqb (a % 2) class && eqb (a / 4) from)

  renamed_yes : (a : ℕ) → moves_channel a ≡ true → renamed class from to a ≡ 4 * to + a % 4
  renamed_yes a e = ap (λ b. cond b (4 * to + a % 4) a) e

  renamed_no : (a : ℕ) → moves_channel a ≡ false → renamed class from to a ≡ a
  renamed_no a e = ap (λ b. cond b (4 * to + a % 4) a) e

  pub renames_out : (a : ℕ) → lawful_code a ≡ true → Renames class from to a (renamed class from to a)
  renames_out a h = elim (kinds a h) [
    | inl l ↦ let o : moves_channel a ≡ false = grind (arith, nat_tests) in subst (Renames class from to a) (sym (renamed_no a o)) (inner_stays l)
    | inr v ↦
        let low : 4 ≤ a = omega (arith, v.channel.0) in
        elim (cases_eq (a % 2) class) [
          | inr d ↦
              let o : moves_channel a ≡ false = ap (λ b. visible a && (b && eqb (a / 4) from)) (ne_eqb (a % 2) class d) ∙ ap (λ b. b && false) (visible_yes a low) in
              subst (Renames class from to a) (sym (renamed_no a o)) (subst (λ x. Renames class from to x x) (sym v.whole) (class_stays v.channel v.polarity v.class d))
          | inl u ↦ elim (cases_eq (a / 4) from) [
            | inr d ↦
                let o : moves_channel a ≡ false = grind (arith, nat_tests) in
                subst (Renames class from to a) (sym (renamed_no a o)) (subst (λ x. Renames class from to x x) (sym v.whole) (channel_stays v.channel v.polarity v.class d))
            | inl c ↦
                let o : moves_channel a ≡ true = grind (arith, nat_tests) in
                let e : code from (a / 2 % 2) class ≡ a = omega (arith, v.whole) in
                let f : code to (a / 2 % 2) class ≡ renamed class from to a = omega (arith, renamed_yes a o) in
                subst (λ x. Renames class from to x (renamed class from to a)) e (subst (Renames class from to (code from (a / 2 % 2) class)) f (moved v.polarity))
          ]
        ]
  ]

  pub renames_in : class ≤ 1 → Channel from → {a b : ℕ} → Renames class from to a b → renamed class from to a ≡ b
  renames_in hu hc (inner_stays {u} l) = let o : moves_channel u ≡ false = grind (arith, nat_tests) in renamed_no u o
  renames_in hu hc (moved {p} hp) =
      let x = parts from p class hc.0 hp hu in
      let o : moves_channel (code from p class) ≡ true = grind (arith, nat_tests, x.channel, x.class, x.seen) in
      renamed_yes (code from p class) o ∙ omega arith
  renames_in hu hc (channel_stays {c} {p} {u} h hp q d) =
      let x = parts c p u h.0 hp q in
      let e : eqb (code c p u / 4) from ≡ false = ne_eqb (code c p u / 4) from (λ y. d (sym x.channel ∙ y)) in
      let o : moves_channel (code c p u) ≡ false = grind (arith, nat_tests, e) in
      renamed_no (code c p u) o
  renames_in hu hc (class_stays {c} {p} {u} h hp q d) =
      let x = parts c p u h.0 hp q in
      let e : eqb (code c p u % 2) class ≡ false = ne_eqb (code c p u % 2) class (λ y. d (sym x.class ∙ y)) in
      let o : moves_channel (code c p u) ≡ false = grind (arith, nat_tests, e) in
      renamed_no (code c p u) o

module _ (first second : ℕ) where
  pub names_out : (a : ℕ) → lawful_code a ≡ true → listed first second a ≡ true → Names first second (a / 4) (a / 2 % 2)
  names_out a h o = elim (kinds a h) [
    | inl l ↦ let z : ⊥ = grind (arith, nat_tests) in absurd z
    | inr v ↦
        let low : 4 ≤ a = omega (arith, v.channel.0) in
        elim (two (a / 2 % 2) v.polarity) [
          | inl z ↦ let n : Holds first (a / 4) = grind (arith, nat_tests) in subst (Names first second (a / 4)) (sym z) (by_first v.channel n)
          | inr z ↦ let n : Holds second (a / 4) = grind (arith, nat_tests) in subst (Names first second (a / 4)) (sym z) (by_second v.channel n)
        ]
  ]

  pub names_in : (u : ℕ) → u ≤ 1 → {c p : ℕ} → Names first second c p → listed first second (code c p u) ≡ true
  names_in u hu (by_first {c} h n) =
      let x = parts c 0 u h.0 (omega arith) hu in
      let e : has_channel first (code c 0 u / 4) ≡ true = ap (has_channel first) x.channel ∙ eq-eqb (first / 2 ^ c % 2) 1 n in
      grind (arith, nat_tests, x.polarity, x.seen, e)
  names_in u hu (by_second {c} h n) =
      let x = parts c 1 u h.0 (omega arith) hu in
      let e : has_channel second (code c 1 u / 4) ≡ true = ap (has_channel second) x.channel ∙ eq-eqb (second / 2 ^ c % 2) 1 n in
      grind (arith, nat_tests, x.polarity, x.seen, e)

  pub names_parts : {c p : ℕ} → Names first second c p → (u : ℕ) → u ≤ 1 → Parts c p u
  names_parts (by_first {c} h n) u hu = parts c 0 u h.0 (omega arith) hu
  names_parts (by_second {c} h n) u hu = parts c 1 u h.0 (omega arith) hu

  -- What a function of codes does that takes the named actions of class u to class v: `raised` and `lowered`.
  pub record Turns (u v : ℕ) (f : ℕ → ℕ) : Type 0 where
    pub turned : {c p : ℕ} → Names first second c p → f (code c p u) ≡ code c p v
    pub kinds_of : (a : ℕ) → lawful_code a ≡ true → Named first second u a ⊎ ((Named first second u a → ⊥) × (f a ≡ a))

  named_by : (u a : ℕ) → u ≤ 1 → lawful_code a ≡ true → (test : Bool) → (test ≡ true → (listed first second a ≡ true) × (a % 2 ≡ u)) → (listed first second a ≡ true → a % 2 ≡ u → test ≡ true) → Named first second u a ⊎ ((Named first second u a → ⊥) × (test ≡ false))
  named_by u a hu h test out back = elim (cases_Bool test) [
    | inl e ↦
        let w = out e in
        let v : a ≡ code (a / 4) (a / 2 % 2) u = elim (kinds a h) [ inl l ↦ let z : ⊥ = grind (arith, nat_tests, w.0) in absurd z | inr v ↦ omega (arith, v.whole, w.1) ] in
        inl (a / 4, a / 2 % 2, names_out a h w.0, v)
    | inr e ↦
        let no : Named first second u a → ⊥ = λ d.
        let x = names_parts d.2 u hu in
        let l : listed first second a ≡ true = ap (listed first second) d.3 ∙ names_in u hu d.2 in
        let k : a % 2 ≡ u = ap (λ y. y % 2) d.3 ∙ x.class in
        let t : test ≡ true = back l k in
        let z : ⊥ = grind (arith, nat_tests) in
        absurd z in
        inr (no, e)
  ]

  pub raised_turns : Turns 0 1 (raised first second)
  raised_turns = record {
    turned = λ {c} {p} n.
        let x = names_parts n 0 (omega arith) in
        let t : (listed first second (code c p 0) && not (prioritised (code c p 0))) ≡ true = grind (arith, nat_tests, names_in 0 (omega arith) n, x.class) in
        ap (λ b. cond b (code c p 0 + 1) (code c p 0)) t ∙ omega arith;
    kinds_of = λ a h. elim (named_by 0 a (omega arith) h (listed first second a && not (prioritised a)) (λ e. let k : a % 2 < 2 = mod_below a 2 (omega arith) in (grind (arith, nat_tests), grind (arith, nat_tests))) (λ l e. grind (arith, nat_tests))) [
      | inl d ↦ inl d
      | inr d ↦ inr (d.0, ap (λ b. cond b (a + 1) a) d.1)
    ];
  }

  pub lowered_turns : Turns 1 0 (lowered first second)
  lowered_turns = record {
    turned = λ {c} {p} n.
        let x = names_parts n 1 (omega arith) in
        let t : (listed first second (code c p 1) && prioritised (code c p 1)) ≡ true = grind (arith, nat_tests, names_in 1 (omega arith) n, x.class) in
        ap (λ b. cond b (code c p 1 - 1) (code c p 1)) t ∙ omega arith;
    kinds_of = λ a h. elim (named_by 1 a (omega arith) h (listed first second a && prioritised a) (λ e. (grind (arith, nat_tests), grind (arith, nat_tests))) (λ l e. grind (arith, nat_tests))) [
      | inl d ↦ inl d
      | inr d ↦ inr (d.0, ap (λ b. cond b (a - 1) a) d.1)
    ];
  }
