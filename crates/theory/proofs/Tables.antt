-- The laws of a table.
use Rattle.std.proofs.Common.{◌≡◌, ℕ, zero, suc, ◌<◌, ◌≤◌, Bool, true, false, cond, not, ◌&&◌, eqb, ltb, leb, List, [], ◌∷◌, map, length, filter, refl, ap, ◌∙◌, inl, inr, arith}
use Rattle.std.specs.List.{AllByRecursion}
use Rattle.std.proofs.lemmas.List.{length-map}
use Rattle.std.proofs.lemmas.Bool.{cases_lt, and_parts, and_left, and_right, ltb-true, leb-true, le-ltb, ne_eqb, cond_both}
use Rattle.std.proofs.ByRecursion.{All-map, All-weaker, kept_by_passes}
use Rattle.std.proofs.lemmas.List.Filters.{length-filter_both}
use Rattle.theory.specs.Codes.{lawful_code}
use Rattle.theory.specs.Systems.{Move, Sound, Lawful, outsize}
use Rattle.theory.specs.Tables.{Triple, is_transition, is_from, transition, table_moves, widest, table_fits, table}

pub outsize_lawful : Lawful outsize
outsize_lawful = record {
  few = omega arith;
  narrow = omega arith;
  short = λ s. omega arith;
  sound = λ s. tt;
  none = λ s l. refl;
  empty = λ e. refl;
}

module _ (n s : ℕ) (row : Triple) where
  from_sound : is_from n s row ≡ true → Sound n (transition row)
  from_sound h =
      let p = and_parts (is_transition n row) (eqb row.0 s) h in
      let q = and_parts (ltb row.0 n) (ltb row.2 n && lawful_code row.1) p.0 in
      let r = and_parts (ltb row.2 n) (lawful_code row.1) q.1 in
      (r.1, ltb-true row.2 n r.0)

  from_past : n ≤ s → is_from n s row ≡ false
  from_past h = elim (cases_lt row.0 n) [
    | inl l ↦ and_right (is_transition n row) (eqb row.0 s) (ne_eqb row.0 s (λ e. omega arith))
    | inr l ↦ and_left (is_transition n row) (eqb row.0 s) (and_left (ltb row.0 n) (ltb row.2 n && lawful_code row.1) (le-ltb row.0 n l))
  ]

kept_none : {X : Type 0} (p : X → Bool) (xs : List X) → ((x : X) → p x ≡ false) → filter p xs ≡ []
kept_none p [] h = refl
kept_none p (x ∷ xs) h = ap (λ b. cond b (x ∷ filter p xs) (filter p xs)) (h x) ∙ kept_none p xs h

pub moves_short : (n : ℕ) (rows : List Triple) (s : ℕ) → length (table_moves n rows s) ≤ length rows
moves_short n rows s = omega (arith, length-map (filter (is_from n s) rows) transition, length-filter_both (is_from n s) (λ x. not (is_from n s x)) (λ x. refl) rows)

pub widest_holds : (f : ℕ → List Move) (n s : ℕ) → s < n → length (f s) ≤ widest f n
widest_holds f zero s h = let z : ⊥ = omega arith in elim z [ ]
widest_holds f (suc n) s h = elim (cases_lt s n) [
  | inl l ↦ omega (arith, widest_holds f n s l)
  | inr l ↦ let e : s ≡ n = omega arith in rw e (omega arith)
]

pub widest_below : (f : ℕ → List Move) (n k : ℕ) → ((s : ℕ) → length (f s) ≤ k) → widest f n ≤ k
widest_below f zero k h = omega arith
widest_below f (suc n) k h = omega (arith, widest_below f n k h, h n)

module _ (n : ℕ) (rows : List Triple) where
  moves_past : (s : ℕ) → n ≤ s → table_moves n rows s ≡ []
  moves_past s h = ap (map transition) (kept_none (is_from n s) rows (λ row. from_past n s row h))

  moves_sound : (s : ℕ) → AllByRecursion (Sound n) (table_moves n rows s)
  moves_sound s = All-map (Sound n) transition (filter (is_from n s) rows) (All-weaker (λ row. is_from n s row ≡ true) (λ row. Sound n (transition row)) (λ row h. from_sound n s row h) (filter (is_from n s) rows) (kept_by_passes (is_from n s) rows))

  fits_lawful : table_fits n rows ≡ true → Lawful (record { n = n; w = widest (table_moves n rows) n; moves = table_moves n rows })
  fits_lawful h =
      let p = and_parts (leb 1 n) (leb n 1024 && leb (length rows) 4096) h in
      let q = and_parts (leb n 1024) (leb (length rows) 4096) p.1 in
      let few : n ≤ 1024 = leb-true n 1024 q.0 in
      let rows_few : length rows ≤ 4096 = leb-true (length rows) 4096 q.1 in
      let some : 1 ≤ n = leb-true 1 n p.0 in
      record {
        few = few;
        narrow = omega (arith, widest_below (table_moves n rows) n (length rows) (moves_short n rows));
        short = λ s. elim (cases_lt s n) [
          | inl l ↦ widest_holds (table_moves n rows) n s l
          | inr l ↦ omega (arith, ap length (moves_past s l))
        ];
        sound = moves_sound;
        none = moves_past;
        empty = λ e. let z : ⊥ = omega arith in elim z [ ];
      }

  pub table_lawful : Lawful (table n rows)
  table_lawful = cond_both (table_fits n rows) (record { n = n; w = widest (table_moves n rows) n; moves = table_moves n rows }) outsize Lawful fits_lawful (λ _. outsize_lawful)
