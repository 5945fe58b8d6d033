-- Laws of the cube: cells that are the cube of facts stay so under a fact more, a fact less, and a refusal.
use Rattle.std.proofs.Common.{◌≡◌, ℕ, suc, ◌<◌, List, [], ◌∷◌, Bool, true, false, ◌&&◌, ◌||◌, refl, sym, ap, ◌∙◌}
use Rattle.std.proofs.Common.{arith, inl, inr, length, Option, Some, None, if◌then◌else◌, nat_lt}
use Rattle.std.specs.Prelude.{IfSome, is_some}
use Rattle.std.specs.List.{list_any}
use Rattle.std.specs.List.Sorted.{IsPermutation}
use Rattle.std.proofs.lemmas.Bool.{cases_Bool, cases_lt, or_left, or_right, or_parts, and_parts, and_from, both_ways}
use Rattle.std.proofs.lemmas.Bool.{lt-ltb}
use Rattle.std.proofs.lemmas.List.{length-replicate, get_or-replicate, get_or_past}
use Rattle.std.proofs.lemmas.List.Sorted.{list_any-IsPermutation}
use Rattle.cube_core.specs.Covers.{covers}
use Rattle.cube_core.specs.Cube.{is_cell, is_total}
use Rattle.cube_core.specs.Group.{group_of}
use Rattle.cube_core.specs.GroupingSet.{mask_of, is_among}
use Rattle.cube_core.specs.Takes.{fits}
use Rattle.cube_core.specs.Layout.{Layout}
use Rattle.cube_core.specs.declared.fact.Fact.{Fact}
use Rattle.cube_core.specs.declared.key.Key.{Key}
use Rattle.cube_core.proofs.ListLaws.{filter-passed, filter-failed}
use Rattle.cube_core.proofs.TextRowLaws.{fits-measures}
use Rattle.cube_values.specs.Bag.{Bag, SameHeld}
use Rattle.cube_cells.specs.Cube.{Lattice, IsCubeOf, HoldsFact, AddsFact, TakesFact, SameCell, SameCells, SameSets}
use Rattle.cube_cells.specs.Cube.{cell_at, cell_holds, is_kept_for, empty_tally, tally_or_empty}
use Rattle.cube_cells.specs.Tally.{Tally, IsTallyOf, PlusFact, bag_at}
use Rattle.cube_cells.proofs.Tallies.FactLaws.{IsTallyOf-cons, IsTallyOf-tail, IsTallyOf-SameTally}
use Rattle.cube_cells.proofs.Tallies.FactLaws.{holds_fact-IsTallyOf}
use Rattle.cube_cells.proofs.Tallies.FactLaws.{tally_moved-filter}

-- ---- groups
group_of-passed : (key : Key) (fact : Fact) (facts : List Fact) → covers key fact ≡ true
    → group_of key (fact ∷ facts) ≡ fact ∷ group_of key facts
group_of-passed key fact facts stands = filter-passed (covers key) fact facts stands

group_of-failed : (key : Key) (fact : Fact) (facts : List Fact) → covers key fact ≡ false
    → group_of key (fact ∷ facts) ≡ group_of key facts
group_of-failed key fact facts stands = filter-failed (covers key) fact facts stands

pub group_of-list_any : (key : Key) (facts : List Fact) → list_any (covers key) facts ≡ false → group_of key facts ≡ []
group_of-list_any key [] none = refl
group_of-list_any key (fact ∷ facts) none =
    let parts = or_parts (covers key fact) (list_any (covers key) facts) none in
    group_of-failed key fact facts parts.0 ∙ group_of-list_any key facts parts.1

pub list_any-group_of : (key : Key) (facts : List Fact)
    → list_any (covers key) facts ≡ nat_lt 0 (length (group_of key facts))
list_any-group_of key [] = refl
list_any-group_of key (fact ∷ facts) = elim (cases_Bool (covers key fact)) [
  | inl stands ↦ or_left (covers key fact) (list_any (covers key) facts) stands
      ∙ sym (ap (λ (g : List Fact). nat_lt 0 (length g)) (group_of-passed key fact facts stands)
      ∙ lt-ltb 0 (suc (length (group_of key facts))) (omega arith))
  | inr apart ↦ rw apart (list_any-group_of key facts)
]

-- the tally of no fact is that of no fact
pub IsTallyOf-empty_tally : (n : ℕ) → IsTallyOf [] (empty_tally n)
IsTallyOf-empty_tally n = record {
  count = refl;
  bags = λ m inside. record {
    held = λ x. rw (get_or-replicate {A = Bag} n m [] [] (omega (arith, inside, length-replicate {A = Bag} n []))) refl;
  };
}

-- ---- measures and bags
-- where there is a cell it has a bag for each measure
abbrev pub HasWidth : Layout → Option Tally → Type 0
HasWidth s cell = IfSome cell (λ t. length t.bags ≡ length s.measures)

-- a tally with a bag for each measure, or of no fact
HasWidth-tally_or_empty : (s : Layout) (old : Option Tally) (measures : ℕ) → measures ≡ length s.measures
    → HasWidth s old → length (tally_or_empty measures old).bags ≡ length s.measures
HasWidth-tally_or_empty s None measures as_many width = length-replicate {A = Bag} measures [] ∙ as_many
HasWidth-tally_or_empty s (Some t) measures as_many width = width

-- ---- cells of a list of facts with one more
-- a kept key is a cell
is_cell-is_kept_for : (sets : List ℕ) (n : ℕ) (fact : Fact) (facts : List Fact) (key : Key)
    → is_kept_for sets fact key ≡ true → is_cell sets n (fact ∷ facts) key ≡ true
is_cell-is_kept_for sets n fact facts key kept =
    let parts = and_parts (covers key fact) (is_among (mask_of key) sets) kept in
    and_from (is_among (mask_of key) sets) (is_total n key || list_any (covers key) (fact ∷ facts)) parts.1
    (or_right (is_total n key) (list_any (covers key) (fact ∷ facts))
    (or_left (covers key fact) (list_any (covers key) facts) parts.0))

-- another key is a cell as before
is_cell-other : (sets : List ℕ) (n : ℕ) (fact : Fact) (facts : List Fact) (key : Key)
    → is_kept_for sets fact key ≡ false → is_cell sets n (fact ∷ facts) key ≡ is_cell sets n facts key
is_cell-other sets n fact facts key unkept = by_among (is_among (mask_of key) sets) (covers key fact) refl refl where
  by_among : (among stands : Bool) → is_among (mask_of key) sets ≡ among → covers key fact ≡ stands
      → is_cell sets n (fact ∷ facts) key ≡ is_cell sets n facts key
  by_among false stands a s = rw a refl
  by_among true false a s = rw s refl
  by_among true true a s = absurd
      (both_ways (is_kept_for sets fact key) unkept (and_from (covers key fact) (is_among (mask_of key) sets) s a))

-- the group of another key that is a cell is as before
group_of-other : (sets : List ℕ) (n : ℕ) (fact : Fact) (facts : List Fact) (key : Key)
    → is_kept_for sets fact key ≡ false → is_cell sets n facts key ≡ true
    → group_of key (fact ∷ facts) ≡ group_of key facts
group_of-other sets n fact facts key unkept cell = elim (cases_Bool (covers key fact)) [
  | inl stands ↦ absurd (both_ways (is_kept_for sets fact key) unkept
      (and_from (covers key fact) (is_among (mask_of key) sets) stands
      (and_parts (is_among (mask_of key) sets) (is_total n key || list_any (covers key) facts) cell).0))
  | inr apart ↦ group_of-failed key fact facts apart
]

-- what a kept key that is no cell has: an empty group
pub group_of-is_cell : (sets : List ℕ) (n : ℕ) (fact : Fact) (facts : List Fact) (key : Key)
    → is_kept_for sets fact key ≡ true → is_cell sets n facts key ≡ false → group_of key facts ≡ []
group_of-is_cell sets n fact facts key kept none =
    let parts = and_parts (covers key fact) (is_among (mask_of key) sets) kept in
    group_of-list_any key facts
    (later (is_among (mask_of key) sets) (is_total n key) (list_any (covers key) facts) parts.1 none) where
      later : (a t s : Bool) → a ≡ true → (a && (t || s)) ≡ false → s ≡ false
      later true true s is h = cc h
      later true false s is h = h
      later false t s is h = cc is

-- ---- a fact more
-- cells that are the cube of facts are that of one more
pub IsCubeOf-AddsFact : (fact : Fact) (old new : Lattice) (facts : List Fact) → fits old.schema fact ≡ true
    → AddsFact fact old new → IsCubeOf old facts → IsCubeOf new (fact ∷ facts)
IsCubeOf-AddsFact fact old new facts fit adds cube =
    let n = length old.schema.dimensions in
    let to_new : (key : Key)
    → is_cell new.sets (length new.schema.dimensions) (fact ∷ facts) key ≡ is_cell old.sets n (fact ∷ facts) key =
    λ key. ap (λ (sets : List ℕ). is_cell sets (length new.schema.dimensions) (fact ∷ facts) key) adds.same.sets
    ∙ ap (λ (s : Layout). is_cell old.sets (length s.dimensions) (fact ∷ facts) key) adds.same.schema in
    record {
      keys = λ key. elim (cases_Bool (is_kept_for old.sets fact key)) [
        | inl kept ↦
            let at = adds.covering key kept in
            ap is_some at.is_cell ∙ sym (to_new key ∙ is_cell-is_kept_for old.sets n fact facts key kept)
        | inr unkept ↦ ap is_some (adds.others key unkept) ∙ cube.keys key
            ∙ sym (to_new key ∙ is_cell-other old.sets n fact facts key unkept)
      ];
      tallies = λ key. elim (cases_Bool (is_kept_for old.sets fact key)) [
        | inl kept ↦
            let at = adds.covering key kept in
            let stands = (and_parts (covers key fact) (is_among (mask_of key) old.sets) kept).0 in
            rw (
              at.is_cell,
              group_of-passed key fact facts stands,
            ) (with_old key kept (cell_at old.cells key) refl at.tally at.plus)
        | inr unkept ↦ rw (adds.others key unkept) (as_before key unkept (cell_at old.cells key) refl)
      ];
      widths = λ key. elim (cases_Bool (is_kept_for old.sets fact key)) [
        | inl kept ↦
            let at = adds.covering key kept in
            rw (at.is_cell, adds.same.schema) (at.plus.bags.same_length ∙ HasWidth-tally_or_empty old.schema
            (cell_at old.cells key) (length fact.measures) (fits-measures old.schema fact fit) (cube.widths key))
        | inr unkept ↦ rw (adds.others key unkept, adds.same.schema) (cube.widths key)
      ];
    } where
      with_old : (key : Key) → is_kept_for old.sets fact key ≡ true → (o : Option Tally) → cell_at old.cells key ≡ o
          → (t : Tally) → PlusFact fact.measures (tally_or_empty (length fact.measures) (cell_at old.cells key)) t
          → IsTallyOf (fact ∷ group_of key facts) t
      with_old key kept None is t plus =
          let none : group_of key facts ≡ [] = group_of-is_cell old.sets
          (length old.schema.dimensions) fact facts key kept (sym (cube.keys key) ∙ ap is_some is) in
          rw none (IsTallyOf-cons [] fact (empty_tally (length fact.measures)) t
          (IsTallyOf-empty_tally (length fact.measures)) (rw is at plus))
      with_old key kept (Some s) is t plus =
          IsTallyOf-cons (group_of key facts) fact s t (rw is at (cube.tallies key)) (rw is at plus)

      as_before : (key : Key) → is_kept_for old.sets fact key ≡ false → (o : Option Tally) → cell_at old.cells key ≡ o
          → IfSome (cell_at old.cells key) (IsTallyOf (group_of key (fact ∷ facts)))
      as_before key unkept None is = rw is tt
      as_before key unkept (Some s) is = rw (group_of-other old.sets
          (length old.schema.dimensions) fact facts key unkept (sym (cube.keys key) ∙ ap is_some is)) (cube.tallies key)

-- ---- a fact less
-- whether the key is a cell without the fact
is_cell-IsTallyOf : (sets : List ℕ) (n : ℕ) (fact : Fact) (facts : List Fact) (key : Key) (left : Tally)
    → is_kept_for sets fact key ≡ true → IsTallyOf (group_of key facts) left
    → is_cell sets n facts key ≡ (is_total n key || nat_lt 0 left.facts)
is_cell-IsTallyOf sets n fact facts key left kept is =
    let among = (and_parts (covers key fact) (is_among (mask_of key) sets) kept).1 in
    rw (among, list_any-group_of key facts, is.count) refl

-- cells that are the cube of facts with one more are that of the others
pub IsCubeOf-TakesFact : (fact : Fact) (old new : Lattice) (facts : List Fact) → TakesFact fact old new
    → IsCubeOf old (fact ∷ facts) → IsCubeOf new facts
IsCubeOf-TakesFact fact old new facts takes cube =
    let n = length old.schema.dimensions in
    let to_new : (key : Key)
    → is_cell new.sets (length new.schema.dimensions) facts key ≡ is_cell old.sets n facts key =
    λ key. ap (λ (sets : List ℕ). is_cell sets (length new.schema.dimensions) facts key) takes.same.sets
    ∙ ap (λ (s : Layout). is_cell old.sets (length s.dimensions) facts key) takes.same.schema in
    record {
      keys = λ key. elim (cases_Bool (is_kept_for old.sets fact key)) [
        | inl kept ↦
            let at = takes.covering key kept in
            let is = without key kept in
            ap is_some at.is_left ∙ some_left (is_total n key || nat_lt 0 at.left.facts) at.left
            ∙ sym (to_new key ∙ is_cell-IsTallyOf old.sets n fact facts key at.left kept is)
        | inr unkept ↦ ap is_some (takes.others key unkept) ∙ cube.keys key
            ∙ is_cell-other old.sets n fact facts key unkept ∙ sym (to_new key)
      ];
      tallies = λ key. elim (cases_Bool (is_kept_for old.sets fact key)) [
        | inl kept ↦
            let at = takes.covering key kept in
            rw at.is_left (if_left (is_total n key || nat_lt 0 at.left.facts) at.left (IsTallyOf (group_of key facts))
            (without key kept))
        | inr unkept ↦ rw (takes.others key unkept) (as_before key unkept (cell_at old.cells key) refl)
      ];
      widths = λ key. elim (cases_Bool (is_kept_for old.sets fact key)) [
        | inl kept ↦
            let at = takes.covering key kept in
            let was : length at.tally.bags ≡ length old.schema.measures = rw at.was_cell at (cube.widths key) in
            rw (at.is_left, takes.same.schema) (if_left (is_total n key || nat_lt 0 at.left.facts) at.left
            (λ t. length t.bags ≡ length old.schema.measures) (sym at.minus.bags.same_length ∙ was))
        | inr unkept ↦ rw (takes.others key unkept, takes.same.schema) (cube.widths key)
      ];
    } where
      some_left : (b : Bool) (t : Tally) → is_some (if b then Some t else None) ≡ b
      some_left true t = refl
      some_left false t = refl

      if_left : (b : Bool) (t : Tally) (P : Tally → Type 0) → P t → IfSome (if b then Some t else None) P
      if_left true t P p = p
      if_left false t P p = tt

      without : (key : Key) → (kept : is_kept_for old.sets fact key ≡ true)
          → IsTallyOf (group_of key facts) (takes.covering key kept).left
      without key kept =
          let at = takes.covering key kept in
          let stands = (and_parts (covers key fact) (is_among (mask_of key) old.sets) kept).0 in
          let was : IsTallyOf (fact ∷ group_of key facts) at.tally =
          rw (at.was_cell, group_of-passed key fact facts stands) at (cube.tallies key) in
          IsTallyOf-tail (group_of key facts) fact at.tally at.left was at.minus

      as_before : (key : Key) → is_kept_for old.sets fact key ≡ false → (o : Option Tally) → cell_at old.cells key ≡ o
          → IfSome (cell_at old.cells key) (IsTallyOf (group_of key facts))
      as_before key unkept None is = rw is tt
      as_before key unkept (Some s) is =
          let cell : is_cell old.sets (length old.schema.dimensions) facts key ≡ true =
          sym (is_cell-other old.sets (length old.schema.dimensions) fact facts key unkept) ∙ sym (cube.keys key)
          ∙ ap is_some is in
          rw (group_of-other old.sets (length old.schema.dimensions) fact facts key unkept cell) at (cube.tallies key)

-- ---- the same cells
pub IsCubeOf-SameCells : (old new : Lattice) (facts : List Fact) → SameCells old new → IsCubeOf old facts
    → IsCubeOf new facts
IsCubeOf-SameCells old new facts same cube = record {
  keys = λ key. some_same (cell_at old.cells key) (cell_at new.cells key) (same.cells key) ∙ cube.keys key ∙ sym
      (ap (λ (sets : List ℕ). is_cell sets (length new.schema.dimensions) facts key) same.same.sets
      ∙ ap (λ (s : Layout). is_cell old.sets (length s.dimensions) facts key) same.same.schema);
  tallies = λ key.
      tally_as (group_of key facts) (cell_at old.cells key) (cell_at new.cells key) (same.cells key) (cube.tallies key);
  widths = λ key.
      rw same.same.schema (width_as (cell_at old.cells key) (cell_at new.cells key) (same.cells key) (cube.widths key));
} where
  width_as : (a b : Option Tally) → SameCell a b → HasWidth old.schema a → HasWidth old.schema b
  width_as None None h is = tt
  width_as None (Some b) h is = absurd h
  width_as (Some a) None h is = absurd h
  width_as (Some a) (Some b) h is = sym h.bags.same_length ∙ is

  some_same : (a b : Option Tally) → SameCell a b → is_some b ≡ is_some a
  some_same None None h = refl
  some_same None (Some b) h = absurd h
  some_same (Some a) None h = absurd h
  some_same (Some a) (Some b) h = refl

  tally_as : (group : List Fact) (a b : Option Tally) → SameCell a b → IfSome a (IsTallyOf group)
      → IfSome b (IsTallyOf group)
  tally_as group None None h is = tt
  tally_as group None (Some b) h is = absurd h
  tally_as group (Some a) None h is = absurd h
  tally_as group (Some a) (Some b) h is = IsTallyOf-SameTally group a b is h

-- ---- a fact of the cube is held
pub HoldsFact-IsCubeOf : (fact : Fact) (l : Lattice) (facts : List Fact) → fits l.schema fact ≡ true → 0 < l.facts
    → IsCubeOf l (fact ∷ facts) → HoldsFact l fact
HoldsFact-IsCubeOf fact l facts fit some cube = record {
  fits = fit;
  some = some;
  held = λ key kept. at key kept (cell_at l.cells key) refl;
} where
  at : (key : Key) → is_kept_for l.sets fact key ≡ true → (o : Option Tally) → cell_at l.cells key ≡ o
      → cell_holds fact.measures (cell_at l.cells key) ≡ true
  at key kept None is = absurd (both_ways (is_some (cell_at l.cells key)) (ap is_some is)
      (cube.keys key ∙ is_cell-is_kept_for l.sets (length l.schema.dimensions) fact facts key kept))
  at key kept (Some t) is =
      let stands = (and_parts (covers key fact) (is_among (mask_of key) l.sets) kept).0 in
      let tally : IsTallyOf (fact ∷ group_of key facts) t =
      rw (is, group_of-passed key fact facts stands) at (cube.tallies key) in
      let width : length t.bags ≡ length l.schema.measures = rw is at (cube.widths key) in
      rw is (holds_fact-IsTallyOf (group_of key facts) fact t tally (fits-measures l.schema fact fit ∙ sym width))

-- ---- facts in another order
-- cells that are the cube of facts are that of the same facts in another order
pub IsCubeOf-permutation : (l : Lattice) (facts moved : List Fact) → IsPermutation facts moved → IsCubeOf l facts
    → IsCubeOf l moved
IsCubeOf-permutation l facts moved change cube = record {
  keys = λ key. cube.keys key
      ∙ ap (λ (b : Bool). is_among (mask_of key) l.sets && (is_total (length l.schema.dimensions) key || b))
      (list_any-IsPermutation (covers key) facts moved change);
  tallies = λ key. moved_tally key (cell_at l.cells key) (cube.tallies key);
  widths = cube.widths;
} where
  moved_tally : (key : Key) (cell : Option Tally) → IfSome cell (IsTallyOf (group_of key facts))
      → IfSome cell (IsTallyOf (group_of key moved))
  moved_tally key None is = tt
  moved_tally key (Some t) is = tally_moved-filter (covers key) facts moved t change is

-- ---- two cubes of the same facts
-- cubes of the same facts over the same sets count the same
pub SameCells-IsCubeOf : (a b : Lattice) (facts : List Fact) → SameSets a b → b.facts ≡ a.facts → IsCubeOf a facts
    → IsCubeOf b facts → SameCells a b
SameCells-IsCubeOf a b facts same number of_a of_b = record {
  same = same;
  facts = number;
  cells = λ key.
      alike key (cell_at a.cells key) (cell_at b.cells key)
      (of_a.keys key ∙ sym (of_b.keys key ∙ ap (λ (sets : List ℕ). is_cell sets (length b.schema.dimensions) facts key)
      same.sets ∙ ap (λ (s : Layout). is_cell a.sets (length s.dimensions) facts key) same.schema))
      (of_a.tallies key) (of_b.tallies key) (of_a.widths key) (rw same.schema at (of_b.widths key));
} where
  bags_alike : (key : Key) (t u : Tally) → IsTallyOf (group_of key facts) t → IsTallyOf (group_of key facts) u
      → length t.bags ≡ length u.bags → (m : ℕ) → SameHeld (bag_at t.bags m) (bag_at u.bags m)
  bags_alike key t u is_t is_u widths m = elim (cases_lt m (length t.bags)) [
    | inl inside ↦
        record { held = λ x. (is_t.bags m inside).held x ∙ sym ((is_u.bags m (omega (arith, inside, widths))).held x) }
    | inr past ↦
        let none_t : bag_at t.bags m ≡ [] = get_or_past t.bags m [] (omega (arith, past)) in
        let none_u : bag_at u.bags m ≡ [] = get_or_past u.bags m [] (omega (arith, past, widths)) in
        rw (none_t, none_u) (record { held = λ x. refl })
  ]

  alike : (key : Key) (c d : Option Tally) → is_some c ≡ is_some d → IfSome c (IsTallyOf (group_of key facts))
      → IfSome d (IsTallyOf (group_of key facts)) → HasWidth a.schema c → HasWidth a.schema d → SameCell c d
  alike key None None some is_c is_d width_c width_d = tt
  alike key None (Some u) some is_c is_d width_c width_d = cc some
  alike key (Some t) None some is_c is_d width_c width_d = cc some
  alike key (Some t) (Some u) some is_c is_d width_c width_d = record {
    facts = is_c.count ∙ sym is_d.count;
    bags = record { same_length = width_c ∙ sym width_d; bags = bags_alike key t u is_c is_d (width_c ∙ sym width_d) };
  }
