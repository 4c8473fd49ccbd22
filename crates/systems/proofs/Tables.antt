-- A table, row by row.
use Rattle.std.proofs.Common.{◌≡◌, ℕ, zero, suc, max, ap₂, ◌+◌, ◌<◌, ◌≤◌, Bool, true, false, cond, eqb, ◌&&◌, List, [], ◌∷◌, ◌++◌, map, length, get_or, take, set, Some, None, filter, sym, refl, ap, ◌∙◌, subst, inl, inr, arith}
use Rattle.std.proofs.lemmas.Bool.{cases_Bool, cases_eq, eq-eqb, ne_eqb}
use Rattle.std.proofs.lemmas.Bool.Decides.{nat_tests}
use Rattle.std.proofs.lemmas.Option.{cond_some}
use Rattle.std.proofs.lemmas.List.Elements.{filter_more}
use Rattle.std.proofs.lemmas.List.{map-append, append-nil, get_or-map, length-map, take_all, map_push, get_or-set_same, get_or-set_other}
use mathlib.Core.Path.{fun_ext}
use Rattle.std.specs.List.{fold}
use Rattle.std.proofs.Math.Seq.{take-suc}
use Rattle.std.proofs.lemmas.List.Sums.{fold-append}
use Rattle.std.specs.Prelude.{nat_lt}
use Rattle.theory.specs.Codes.{lawful_code}
use Rattle.theory.specs.Systems.{Move, Lts, outsize}
use Rattle.theory.specs.Tables.{Triple, is_transition, is_from, transition, table_moves, widest, table_fits, table}
use Rattle.actions.specs.declared.action.Action.{Action}
use Rattle.actions.specs.Transitions.{move_of, moves_of}
use Rattle.systems.specs.declared.rows.Row.{Row}
use Rattle.systems.specs.StateLists.{list_at}
use Rattle.systems.specs.declared.rows.RowRefusal.{RowRefusal}
use Rattle.systems.specs.declared.rows.RowRefusal.TheVariants.{NoSuchState, NoSuchAction}
use Rattle.systems.specs.Rows.{triple, triples, row_fault}
use Rattle.systems.proofs.Listings.{Holds}

lawful : (a b c : Bool) (f g : RowRefusal) → cond (a && b) (cond c None (Some f)) (Some g) ≡ None → (a && (b && c)) ≡ true
lawful true true true f g e = refl
lawful true true false f g e = let z : ⊥ = grind arith in absurd z
lawful true false c f g e = let z : ⊥ = grind arith in absurd z
lawful false b c f g e = let z : ⊥ = grind arith in absurd z

unlawful : (a b c : Bool) (f g h : RowRefusal) → cond (a && b) (cond c None (Some f)) (Some g) ≡ Some h → (a && (b && c)) ≡ false
unlawful true true true f g h e = let z : ⊥ = grind arith in absurd z
unlawful true true false f g h e = refl
unlawful true false c f g h e = refl
unlawful false b c f g h e = refl

-- a row that was read, as a transition or as none
pub read_some : (n i : ℕ) (row : Row) (m : Action × ℕ) → row_fault n i row ≡ None → move_of m ≡ transition (triple row) → Some (move_of m) ≡ cond (is_transition n (triple row)) (Some (transition (triple row))) None
read_some n i row m e h = ap Some h ∙ sym (ap (λ b. cond b (Some (transition (triple row))) None) (lawful (nat_lt row.from n) (nat_lt row.to n) (lawful_code row.code) (NoSuchAction i) (NoSuchState i) e))

pub read_none : (n i : ℕ) (row : Row) (f : RowRefusal) → row_fault n i row ≡ Some f → None ≡ cond (is_transition n (triple row)) (Some (transition (triple row))) None
read_none n i row f e = sym (ap (λ b. cond b (Some (transition (triple row))) None) (unlawful (nat_lt row.from n) (nat_lt row.to n) (lawful_code row.code) (NoSuchAction i) (NoSuchState i) f e))

-- the lists of the first i rows
abbrev pub Sorted : ℕ → List Row → ℕ → List (List (Action × ℕ)) → Type 0
Sorted n rows i lists = (s : ℕ) → moves_of (list_at lists s) ≡ table_moves n (take i (triples rows)) s

module _ (n : ℕ) (rows : List Row) (i : ℕ) (d : Row) (h : i < length rows) where
  abbrev row : Triple
  row = triple (get_or rows i d)

  one : Bool → List Move
  one b = map transition (cond b (row ∷ []) [])

  more : (s : ℕ) → table_moves n (take (i + 1) (triples rows)) s ≡ table_moves n (take i (triples rows)) s ++ one (is_from n s row)
  unfolding one
  more s =
      ap (map transition) (filter_more (is_from n s) (triples rows) i (triple d) (omega (arith, length-map rows triple)))
      ∙ map-append transition (filter (is_from n s) (take i (triples rows))) _
      ∙ ap (λ (t : Triple). table_moves n (take i (triples rows)) s ++ map transition (cond (is_from n s t) (t ∷ []) [])) (get_or-map triple rows i d (triple d) h)

  hit : (s : ℕ) (m : Action × ℕ) → is_from n s row ≡ true → move_of m ≡ transition row → table_moves n (take (i + 1) (triples rows)) s ≡ table_moves n (take i (triples rows)) s ++ (move_of m ∷ [])
  unfolding one
  hit s m b e = more s ∙ ap (λ c. table_moves n (take i (triples rows)) s ++ one c) b ∙ ap (λ (x : Move). table_moves n (take i (triples rows)) s ++ (x ∷ [])) (sym e)

  miss : (s : ℕ) → is_from n s row ≡ false → table_moves n (take (i + 1) (triples rows)) s ≡ table_moves n (take i (triples rows)) s
  unfolding one
  miss s b = more s ∙ ap (λ c. table_moves n (take i (triples rows)) s ++ one c) b ∙ append-nil (table_moves n (take i (triples rows)) s)

  pub passed_over : (lists : List (List (Action × ℕ))) → Sorted n rows i lists → None ≡ cond (is_transition n row) (Some (transition row)) None → Sorted n rows (i + 1) lists
  passed_over lists h e s = h s ∙ sym (miss s (elim (cases_Bool (is_transition n row)) [
    | inl b ↦ let z : ⊥ = cc in absurd z
    | inr b ↦ ap (λ c. c && eqb row.0 s) b
  ]))

  pub from_below : (m : Action × ℕ) → Some (move_of m) ≡ cond (is_transition n row) (Some (transition row)) None → row.0 < n
  from_below m e = let k : is_transition n row ≡ true = (cond_some (is_transition n row) (transition row) (move_of m) (sym e)).0 in grind (arith, nat_tests)

  pub put : (lists lists' : List (List (Action × ℕ))) (m : Action × ℕ) (f : ℕ) → f ≡ row.0 → f < length lists → lists' ≡ set lists f (list_at lists f ++ (m ∷ [])) → Sorted n rows i lists → Some (move_of m) ≡ cond (is_transition n row) (Some (transition row)) None → Sorted n rows (i + 1) lists'
  put lists lists' m f ef l el h e s =
      let k = cond_some (is_transition n row) (transition row) (move_of m) (sym e) in
      let list = list_at lists f ++ (m ∷ []) in
      ap (λ ls. moves_of (list_at ls s)) el
      ∙ elim (cases_eq s f) [
        | inl q ↦
            ap (λ j. moves_of (list_at (set lists f list) j)) q
            ∙ ap moves_of (get_or-set_same lists f list [] l)
            ∙ map_push move_of (list_at lists f) m
            ∙ ap (λ (ms : List Move). ms ++ (move_of m ∷ [])) (ap (λ j. moves_of (list_at lists j)) (sym q) ∙ h s)
            ∙ sym (hit s m (ap (λ b. b && eqb row.0 s) k.0 ∙ eq-eqb row.0 s (sym (q ∙ ef))) (sym k.1))
        | inr q ↦ ap moves_of (get_or-set_other lists f s list [] q) ∙ h s ∙ sym (miss s (ap (λ b. b && eqb row.0 s) k.0 ∙ ne_eqb row.0 s (λ r. q (sym (ef ∙ r)))))
      ]

pub sorted_all : (n : ℕ) (rows : List Row) (i : ℕ) (lists : List (List (Action × ℕ))) → length rows ≤ i → Sorted n rows i lists → (s : ℕ) → moves_of (list_at lists s) ≡ table_moves n (triples rows) s
sorted_all n rows i lists h e s = e s ∙ ap (λ rs. table_moves n rs s) (take_all i (triples rows) (omega (arith, length-map rows triple)))

-- the longest of some lists
module _ {V : Type 0} (items : V → List (Action × ℕ)) (size : V → ℕ) (sized : (v : V) → size v ≡ length (items v)) where
  longest_to : (vs : List V) (d : V) (i : ℕ) → i ≤ length vs → fold (λ a v. max a (size v)) 0 (take i vs) ≡ widest (λ s. moves_of (list_at (map items vs) s)) i
  longest_to vs d zero h = refl
  longest_to vs d (suc i) h =
      ap (fold (λ a v. max a (size v)) 0) (take-suc vs i d h)
      ∙ fold-append (λ a v. max a (size v)) 0 (take i vs) (get_or vs i d ∷ [])
      ∙ ap₂ max (longest_to vs d i (omega arith)) (sized (get_or vs i d) ∙ sym (length-map (items (get_or vs i d)) move_of) ∙ ap (λ ms. length (moves_of ms)) (sym (get_or-map items vs i d [] h)))

  pub longest : (vs : List V) → fold (λ a v. max a (size v)) 0 vs ≡ widest (λ s. moves_of (list_at (map items vs) s)) (length vs)
  longest [] = refl
  longest (v ∷ vs) = ap (fold (λ a x. max a (size x)) 0) (sym (take_all (length (v ∷ vs)) (v ∷ vs) (omega arith))) ∙ longest_to (v ∷ vs) v (length (v ∷ vs)) (omega arith)

-- a table that fits, sorted by state, or one that does not, which is outsize
pub table_held : (n : ℕ) (rows : List Row) (k w : ℕ) (lists : List (List (Action × ℕ))) → w ≡ widest (λ s. moves_of (list_at lists s)) k → table_fits n (triples rows) ≡ true → k ≡ n → ((s : ℕ) → moves_of (list_at lists s) ≡ table_moves n (triples rows) s) → Holds (table n (triples rows)) k w lists
table_held n rows k w lists ew b ek h =
    let M : Lts = record { n = n; w = widest (table_moves n (triples rows)) n; moves = table_moves n (triples rows) } in
    let e : M ≡ table n (triples rows) = sym (ap (λ c. cond c M outsize) b) in
    subst (λ (X : Lts). Holds X k w lists) e (record {
      states = ek;
      width = ew ∙ ap₂ widest (fun_ext h) ek;
      moves = h;
    })

pub outsize_held : (n : ℕ) (rows : List Row) (k w : ℕ) (lists : List (List (Action × ℕ))) → w ≡ widest (λ s. moves_of (list_at lists s)) k → table_fits n (triples rows) ≡ false → k ≡ 0 → lists ≡ [] → Holds (table n (triples rows)) k w lists
outsize_held n rows k w lists ew b ek el =
    let M : Lts = record { n = n; w = widest (table_moves n (triples rows)) n; moves = table_moves n (triples rows) } in
    let e : outsize ≡ table n (triples rows) = sym (ap (λ c. cond c M outsize) b) in
    subst (λ (X : Lts). Holds X k w lists) e (record {
      states = ek;
      width = ew ∙ ap (widest (λ s. moves_of (list_at lists s))) ek;
      moves = λ s. ap (λ ls. moves_of (list_at ls s)) el;
    })
