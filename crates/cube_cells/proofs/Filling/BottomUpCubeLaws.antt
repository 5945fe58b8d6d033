-- The law of the bottom-up walk: over the finest cells of some facts it gives the cube of these facts over the kept sets.
use Rattle.std.proofs.Common.{◌≡◌, ℕ, zero, suc, ◌+◌, ◌*◌, ◌-◌, ◌^◌, ◌<◌, ◌≤◌, ◌==◌, ◌||◌, List, [], ◌∷◌, ◌++◌}
use Rattle.std.proofs.Common.{Bool, true, false, Option, Some, None, refl, sym, ap, ◌∙◌, subst, arith, inl, inr, ◌⊎◌}
use Rattle.std.proofs.Common.{length, get_or, set, take, replicate, nat_lt, if◌then◌else◌}
use Rattle.std.specs.Prelude.{All, Contains, IfSome, ℤ, bit_and, is_some, sum_by}
use Rattle.std.specs.List.{list_all, list_any}
use Rattle.std.specs.List.Sorted.{IsPermutation, IsSortedBy, IsStrictlySortedBy}
use Rattle.std.specs.Map.{keys_of}
use Rattle.std.specs.Cmp.Lexicographic.{slice_cmp}
use Rattle.std.specs.Ordering.{is_lt, nat_cmp}
use Rattle.cube_cells.specs.BottomUp.{cells_of_items}
use Rattle.cube_cells.specs.declared.cube.bottom_up.Item.{Item}
use Rattle.cube_cells.proofs.Cells.SchemaLaws.{few_dimensions, its_schema, some_dimension}
use Rattle.cube_cells.proofs.Rows.RowLaws.{IsSortedBy-map}
use Rattle.std.specs.declared.cmp.Ordering.TheVariants.{Less}
use Rattle.std.proofs.lemmas.Cmp.{nat_list_cmp_total, on_total}
use Rattle.std.proofs.lemmas.List.{get_or-map, get_or-set_other, get_or-set_same, length-map}
use Rattle.std.proofs.lemmas.List.Folds.{list_any_more}
use Rattle.std.proofs.lemmas.Map.Keys.{apart_from_distinct, sorted_from_all_adjacent}
use Rattle.std.proofs.lemmas.Map.Lookups.{exact_bytes}
use Rattle.cube_cells.specs.BottomUp.{CanWalk, IsWalkable}
use Rattle.cube_cells.proofs.Codes.RankLaws.{Less-from_is_lt}
use Rattle.cube_cells.proofs.Filling.BottomUpLaws.{apart-same_codes}
use Rattle.cube_cells.proofs.Filling.MovedLaws.{HaveAll-IsPermutation}
use Rattle.std.proofs.Math.Nat.{pow-succ'}
use Rattle.std.proofs.lemmas.Bool.{and_parts, and_from, both_ways, cases_eq, eqb-true, eq-eqb, false_from_ne_true, lt-ltb}
use Rattle.std.proofs.lemmas.Bool.{ltb-true, ne_eqb, or_left, or_right}
use Rattle.std.proofs.lemmas.Bool.Decides.{same_from_decides}
use Rattle.std.proofs.lemmas.List.Elements.{All-contains, All-head, All-tail, All-cons, All-nil, filter-append}
use Rattle.std.proofs.lemmas.List.Sorted.{sum_by-IsPermutation}
use Rattle.std.proofs.lemmas.List.Sums.{sum_by-append, sum_by-cons}
use Rattle.std.proofs.lemmas.Map.Views.{Contains-from_lookup}
use Rattle.cube_core.specs.Covers.{covers, all_stand_for}
use Rattle.cube_core.specs.Cube.{is_cell, is_total}
use Rattle.cube_core.specs.Group.{group_of, value_of}
use Rattle.cube_core.specs.GroupingSet.{is_all_coord, is_among, mask_of}
use Rattle.cube_core.specs.Layout.{Layout}
use Rattle.cube_core.specs.Takes.{fits}
use Rattle.cube_core.specs.declared.fact.Fact.{Fact}
use Rattle.cube_core.specs.declared.key.Coord.{Coord}
use Rattle.cube_core.specs.declared.key.Coord.TheVariants as coord
use Rattle.cube_core.specs.declared.key.Key.{Key}
use Rattle.cube_core.proofs.AncestorLaws.{all_stand_for-ancestor_of, all_stand_for-length}
use Rattle.cube_core.proofs.CellKeyLaws.{Key-coords, fits-length}
use Rattle.cube_core.proofs.ReorderedLaws.{filter-IsPermutation}
use Rattle.cube_values.specs.Bag.{held_of}
use Rattle.cube_cells.specs.BottomUp.{IsFree, IsItem, IsPart, IsWalkOf, codes_cmp, weigh}
use Rattle.cube_cells.specs.Codes.{Dictionaries, IsDictionary, all_code, are_codes, coords_at, is_code, key_at}
use Rattle.cube_cells.specs.Codes.{null_code}
use Rattle.cube_cells.specs.Coded.{CodedCells, IsCoded, IsCodedCell, coded_at, decoded, is_total_code, lattice_of, same_codes}
use Rattle.cube_cells.specs.Cube.{IsCubeOf, cell_at}
use Rattle.cube_cells.specs.Fill.{IsCubeOfAll, finest_set}
use Rattle.cube_cells.specs.Levels.{mask_of_codes}
use Rattle.cube_cells.specs.Tally.{Tally, IsTallyOf, bag_at, one_of}
use Rattle.cube_cells.specs.Walk.{AreApart, key_in}
use Rattle.cube_cells.specs.declared.cube.codes.Codes.{Codes}
use Rattle.cube_cells.proofs.Cells.CubeLaws.{list_any-group_of}
use Rattle.cube_cells.proofs.Cells.TableLaws.{mask_of_codes-kept_codes}
use Rattle.cube_cells.proofs.Codes.GrowthLaws.{All-is_among}
use Rattle.cube_cells.proofs.Codes.KeyLaws.{HasCodes, are_codes-kept_codes}
use Rattle.cube_cells.proofs.Filling.LevelLaws.{bit_and-finest_set}
use Rattle.cube_cells.proofs.Tallies.GroupLaws.{one_covers}
use Rattle.cube_core.proofs.ListLaws.{filter-Contains, list_any-Contains}
use Rattle.cube_core.proofs.AncestorLaws.{mask_of_coords-length}
use Rattle.cube_cells.specs.Codes.{AreCodesOf}
use Rattle.cube_cells.proofs.Cells.TableLaws.{mask_of_coords-mask_of_codes}
use Rattle.cube_cells.proofs.Cells.WalkLaws.{same_codes-exact, same_codes-IsEquivalence}
use Rattle.cube_cells.proofs.Codes.DictionaryLaws.{is_code-cases}
use Rattle.cube_cells.proofs.Codes.KeyLaws.{AreCodesOf-alone, HasCodes-covering_key, IsCodedCell-coded_at, coords_at-AreCodesOf}
use Rattle.cube_cells.proofs.Codes.KeyLaws.{covering_key, covering_key-mask_of, key-HasCodes, look_up-coded, no_cell-width}
use Rattle.cube_cells.proofs.Filling.BottomUpCellLaws.{All-closed, All-kept, IsAllPast, IsPart-facts}
use Rattle.cube_cells.proofs.Filling.BottomUpCellLaws.{IsPart-held, at_codes, part_at, part_at-IsWalkOf}
use Rattle.cube_cells.proofs.Filling.FilledLaws.{HasFinerGroup, HasFinerGroup-IsSetCell, HaveAll, IsBase, IsSetCell}
use Rattle.cube_cells.proofs.Filling.FilledLaws.{IsSetCell-HaveAll, group_of-all, group_of-none, one_covers-HaveAll}
use Rattle.cube_cells.proofs.Tallies.FactLaws.{count_by-values_of}
use Rattle.cube_cells.proofs.Tallies.GroupLaws.{AreCodesOf-coords_at, cell_key, gathered, gathered-IsPermutation}

-- ---- parts of facts
-- a part of a tally is what its facts come to
pub record IsPartOf (measures : ℕ) (part : Tally → ℕ) (of : Fact → ℕ) : Type 0 where
  pub is_part : IsPart part
  pub sums : (facts : List Fact) (t : Tally) → length t.bags ≡ measures → IsTallyOf facts t
      → part t ≡ sum_by of facts

length-sum : {X : Type 0} (xs : List X) → length xs ≡ sum_by (λ _. 1) xs
length-sum [] = refl
length-sum (x ∷ xs) = omega (arith, sum_by-cons (λ _. 1) x xs, length-sum xs)

pub IsPartOf-facts : (measures : ℕ) → IsPartOf measures (λ t. t.facts) (λ _. 1)
IsPartOf-facts measures = record {
  is_part = IsPart-facts;
  sums = λ facts t width is. is.count ∙ length-sum facts;
}

pub IsPartOf-held : (measures m : ℕ) (x : ℤ) → m < measures
    → IsPartOf measures (λ t. held_of (bag_at t.bags m) x) (λ fact. one_of x (value_of m fact))
IsPartOf-held measures m x inside = record {
  is_part = IsPart-held m x;
  sums = λ facts t width is. (is.bags m (omega (arith, inside, width))).held x ∙ count_by-values_of x m facts;
}

-- ---- codes of the finest set
pub pow-positive : (n : ℕ) → 0 < 2 ^ n
pow-positive zero = omega arith
pow-positive (suc n) = omega (arith, pow-succ' 2 n, pow-positive n)

-- none of the dimensions is ALL
free-finest : (dictionaries : Dictionaries) (codes : List ℕ) (d : ℕ) → All IsDictionary dictionaries
    → are_codes dictionaries codes ≡ true → mask_of_codes codes ≡ 2 ^ length dictionaries - 1
    → d < length dictionaries → get_or codes d 0 < all_code
free-finest [] codes d texts valid mask inside = absurd (omega (arith, inside))
free-finest (t ∷ dictionaries) [] d texts valid mask inside = cc valid
free-finest (t ∷ dictionaries) (x ∷ codes) d texts valid mask inside =
    by_code (x == all_code) refl d inside (λ whole e below. free-finest dictionaries codes e
    (All-tail IsDictionary t dictionaries texts) parts.1 whole below)
  where
    parts : (is_code t x ≡ true) × (are_codes dictionaries codes ≡ true)
    parts = and_parts (is_code t x) (are_codes dictionaries codes) valid

    power : 2 ^ suc (length dictionaries) ≡ 2 * 2 ^ length dictionaries
    power = omega (arith, pow-succ' 2 (length dictionaries))

    low : (x == all_code) ≡ false → x < all_code
    low some = by_kind (is_code-cases t x parts.0) where
      by_kind : (x ≡ all_code) ⊎ ((x ≡ null_code) ⊎ (x < length t)) → x < all_code
      by_kind (inl all) = absurd (both_ways (x == all_code) some (eq-eqb x all_code all))
      by_kind (inr (inl null)) = omega (arith, null)
      by_kind (inr (inr below)) = omega (arith, below, (All-head IsDictionary t dictionaries texts).few)

    by_code : (b : Bool) → (x == all_code) ≡ b → (e : ℕ) → e < suc (length dictionaries)
        → (mask_of_codes codes ≡ 2 ^ length dictionaries - 1 → (e : ℕ) → e < length dictionaries
        → get_or codes e 0 < all_code) → get_or (x ∷ codes) e 0 < all_code
    by_code true all e below rest =
        let even : 0 + 2 * mask_of_codes codes ≡ 2 ^ suc (length dictionaries) - 1 =
        ap (λ (b : Bool). (if b then 0 else 1) + 2 * mask_of_codes codes) (sym all) ∙ mask in
        absurd (omega (arith, even, power, pow-positive (length dictionaries)))
    by_code false some zero below rest = low some
    by_code false some (suc e) below rest =
        let odd : 1 + 2 * mask_of_codes codes ≡ 2 ^ suc (length dictionaries) - 1 =
        ap (λ (b : Bool). (if b then 0 else 1) + 2 * mask_of_codes codes) (sym some) ∙ mask in
        rest (omega (arith, odd, power)) e (omega (arith, below))

-- and past the last each code is ALL
past-are_codes : (dictionaries : Dictionaries) (codes : List ℕ) (i : ℕ) → are_codes dictionaries codes ≡ true
    → length dictionaries ≤ i → i < length codes → get_or codes i 0 ≡ all_code
past-are_codes [] [] i valid past inside = absurd (omega (arith, inside))
past-are_codes [] (x ∷ codes) zero valid past inside =
    eqb-true x all_code (and_parts (x == all_code) (list_all (λ code. code == all_code) codes) valid).0
past-are_codes [] (x ∷ codes) (suc i) valid past inside =
    past-are_codes [] codes i (and_parts (x == all_code) (list_all (λ code. code == all_code) codes) valid).1
    (omega arith) (omega (arith, inside))
past-are_codes (t ∷ dictionaries) [] i valid past inside = absurd (omega (arith, inside))
past-are_codes (t ∷ dictionaries) (x ∷ codes) zero valid past inside = absurd (omega (arith, past))
past-are_codes (t ∷ dictionaries) (x ∷ codes) (suc i) valid past inside =
    past-are_codes dictionaries codes i (and_parts (is_code t x) (are_codes dictionaries codes) valid).1
    (omega (arith, past)) (omega (arith, inside))

-- codes stay codes where a dimension is ALL
are_codes-all_at : (dictionaries : Dictionaries) (codes : List ℕ) (d : ℕ) → are_codes dictionaries codes ≡ true
    → are_codes dictionaries (set codes d all_code) ≡ true
are_codes-all_at [] [] d valid = valid
are_codes-all_at [] (x ∷ codes) zero valid =
    (and_parts (x == all_code) (list_all (λ code. code == all_code) codes) valid).1
are_codes-all_at [] (x ∷ codes) (suc d) valid =
    let parts = and_parts (x == all_code) (list_all (λ code. code == all_code) codes) valid in
    and_from (x == all_code) (list_all (λ code. code == all_code) (set codes d all_code)) parts.0
    (are_codes-all_at [] codes d parts.1)
are_codes-all_at (t ∷ dictionaries) [] d valid = cc valid
are_codes-all_at (t ∷ dictionaries) (x ∷ codes) zero valid =
    (and_parts (is_code t x) (are_codes dictionaries codes) valid).1
are_codes-all_at (t ∷ dictionaries) (x ∷ codes) (suc d) valid =
    let parts = and_parts (is_code t x) (are_codes dictionaries codes) valid in
    and_from (is_code t x) (are_codes dictionaries (set codes d all_code)) parts.0
    (are_codes-all_at dictionaries codes d parts.1)

-- ---- the finest cells
-- these are cells of some facts over the finest grouping set
pub record AreFinest (schema : Layout) (dictionaries : Dictionaries) (facts : List Fact) (items : CodedCells)
    : Type 0 where
  pub base : IsBase schema dictionaries facts
  pub all : HaveAll schema dictionaries facts (finest_set (length schema.dimensions) ∷ []) items

pub AreFinest-IsCoded : (schema : Layout) (dictionaries : Dictionaries) (facts : List Fact) (items : CodedCells)
    → IsCoded schema (finest_set (length schema.dimensions) ∷ []) (length facts) dictionaries items
    → IsCubeOfAll facts (lattice_of schema (finest_set (length schema.dimensions) ∷ []) (length facts) dictionaries items)
    → AreFinest schema dictionaries facts items
AreFinest-IsCoded schema dictionaries facts items coded of = record {
  base = record {
    is_schema = its_schema coded.lattice;
    width = coded.lattice.dictionaries;
    texts = coded.texts;
    fit = of.fit;
  };
  all = record {
    distinct = coded.distinct;
    each = coded.each;
    total = coded.total;
    counts = coded.counts;
    keys = of.cells.keys;
    tallies = of.cells.tallies;
  };
}

pub some_finest : (schema : Layout) (dictionaries : Dictionaries) (facts : List Fact) (items : CodedCells)
    → AreFinest schema dictionaries facts items → 0 < finest_set (length schema.dimensions)
some_finest schema dictionaries facts items are =
    at (length schema.dimensions) (some_dimension are.base.is_schema)
  where
    at : (n : ℕ) → 1 ≤ n → 0 < 2 ^ n - 1
    at zero some = absurd (omega (arith, some))
    at (suc n) some = omega (arith, pow-succ' 2 n, pow-positive n)

set_cells : (schema : Layout) (dictionaries : Dictionaries) (facts : List Fact) (items : CodedCells)
    → AreFinest schema dictionaries facts items
    → All (IsSetCell schema dictionaries facts (finest_set (length schema.dimensions))) items
set_cells schema dictionaries facts items are =
    IsSetCell-HaveAll schema dictionaries facts (finest_set (length schema.dimensions)) items are.base are.all

-- each is a cell of some facts
pub All-IsItem : (schema : Layout) (dictionaries : Dictionaries) (facts : List Fact) (items : CodedCells)
    → AreFinest schema dictionaries facts items → All (IsItem (length schema.measures)) items
All-IsItem schema dictionaries facts items are k d inside =
    let cell : Codes × Tally = get_or items k d in
    let is = set_cells schema dictionaries facts items are k d inside in
    let any : list_any (covers (cell_key dictionaries cell)) facts ≡ true =
    is.covers_one (some_finest schema dictionaries facts items are) in
    let some : nat_lt 0 (length (group_of (cell_key dictionaries cell) facts)) ≡ true =
    sym (list_any-group_of (cell_key dictionaries cell) facts) ∙ any in
    record {
      eight = is.of_set.eight;
      width = is.bags;
      some = omega (arith, is.tally.count, ltb-true 0 (length (group_of (cell_key dictionaries cell) facts)) some);
    }

pub All-IsFree : (schema : Layout) (dictionaries : Dictionaries) (facts : List Fact) (items : CodedCells)
    → AreFinest schema dictionaries facts items → All (IsFree (length schema.dimensions) 0) items
All-IsFree schema dictionaries facts items are k d inside i after below =
    let is = set_cells schema dictionaries facts items are k d inside in
    let codes : List ℕ = (get_or items k d).0.codes in
    let mask : mask_of_codes codes ≡ 2 ^ length dictionaries - 1 =
    sym (mask_of_coords-mask_of_codes dictionaries codes are.base.texts is.of_set.valid) ∙ is.of_set.in_set
    ∙ ap (λ (n : ℕ). 2 ^ n - 1) (sym are.base.width) in
    free-finest dictionaries codes i are.base.texts is.of_set.valid mask (omega (arith, below, are.base.width))

pub All-IsAllPast : (schema : Layout) (dictionaries : Dictionaries) (facts : List Fact) (items : CodedCells)
    → AreFinest schema dictionaries facts items → All (λ item. IsAllPast (length schema.dimensions) item.0) items
All-IsAllPast schema dictionaries facts items are k d inside i past below =
    let is = set_cells schema dictionaries facts items are k d inside in
    past-are_codes dictionaries (get_or items k d).0.codes i is.of_set.valid (omega (arith, past, are.base.width))
    (omega (arith, below, is.of_set.eight))

-- ---- the group of a key
-- a key covers the facts of a finest cell where that has the key's codes in its set
covers-at_codes : (schema : Layout) (dictionaries : Dictionaries) (facts : List Fact) (item : Codes × Tally)
    (key : Codes) → IsBase schema dictionaries facts → are_codes dictionaries key.codes ≡ true → length key.codes ≡ 8
    → (g : HasFinerGroup schema dictionaries facts (mask_of_codes key.codes) item)
    → covers (key_at dictionaries key.codes) g.group.first ≡ same_codes key (key_in item.0 (mask_of_codes key.codes))
covers-at_codes schema dictionaries facts item key base valid eight g =
    same_from_decides (covers of g.group.first) (same_codes key (key_in item.0 set)) (
      λ stands. covering_key-mask_of g.group.first of stands ∙ ap (covering_key g.group.first) mask,
      λ is. ap (λ (k : Key). covers k g.group.first) is ∙ all_stand_for-ancestor_of g.group.first.dims set,
    ) (there, back)
  where
    set : ℕ
    set = mask_of_codes key.codes

    of : Key
    of = key_at dictionaries key.codes

    mask : mask_of of ≡ set
    mask = mask_of_coords-mask_of_codes dictionaries key.codes base.texts valid

    in_set : HasCodes dictionaries (covering_key g.group.first set) (key_in g.codes set)
    in_set = HasCodes-covering_key dictionaries g.group.first g.codes set base.texts g.group.has

    there : same_codes key (key_in item.0 set) ≡ true → of ≡ covering_key g.group.first set
    there same =
        let codes : key ≡ key_in g.codes set = same_codes-exact key (key_in item.0 set) same ∙ g.same in
        Key-coords of (covering_key g.group.first set)
        (ap (λ (c : Codes). coords_at dictionaries c.codes) codes
        ∙ coords_at-AreCodesOf dictionaries (covering_key g.group.first set).coords (key_in g.codes set).codes in_set.are
        g.group.valid)

    back : of ≡ covering_key g.group.first set → same_codes key (key_in item.0 set) ≡ true
    back is =
        let lists : key.codes ≡ (key_in g.codes set).codes = AreCodesOf-alone dictionaries
        (covering_key g.group.first set).coords (key_in g.codes set).codes key.codes in_set.are valid
        (omega (arith, eight, in_set.eight)) (ap (λ (k : Key). k.coords) is) in
        let make : List ℕ → Codes = λ xs. record { codes = xs } in
        subst (λ (c : Codes). same_codes key c ≡ true) (ap make lists ∙ sym g.same) (same_codes-IsEquivalence.refl key)

-- the facts of one finest cell that a key covers
sum-item : (schema : Layout) (dictionaries : Dictionaries) (facts : List Fact) (item : Codes × Tally) (key : Codes)
    (part : Tally → ℕ) (of : Fact → ℕ) → IsBase schema dictionaries facts → are_codes dictionaries key.codes ≡ true
    → length key.codes ≡ 8 → IsPartOf (length schema.measures) part of
    → HasFinerGroup schema dictionaries facts (mask_of_codes key.codes) item
    → sum_by of (group_of (key_at dictionaries key.codes) (group_of (cell_key dictionaries item) facts))
    ≡ at_codes key (key_in item.0 (mask_of_codes key.codes)) * part item.1
sum-item schema dictionaries facts item key part of base valid eight is g =
    by_test (same_codes key (key_in item.0 set)) refl
  where
    set : ℕ
    set = mask_of_codes key.codes

    k : Key
    k = key_at dictionaries key.codes

    group : List Fact
    group = group_of (cell_key dictionaries item) facts

    mask : mask_of k ≡ set
    mask = mask_of_coords-mask_of_codes dictionaries key.codes base.texts valid

    first : covers k g.group.first ≡ same_codes key (key_in item.0 set)
    first = covers-at_codes schema dictionaries facts item key base valid eight g

    by_test : (b : Bool) → same_codes key (key_in item.0 set) ≡ b
        → sum_by of (group_of k group) ≡ at_codes key (key_in item.0 set) * part item.1
    by_test true same =
        let all : group_of k group ≡ group =
        group_of-all k g.group.first group (g.group.alike k mask) (first ∙ same) in
        let one : at_codes key (key_in item.0 set) ≡ 1 = ap (λ (b : Bool). if b then 1 else 0) same in
        omega (
          arith,
          ap (sum_by of) all,
          is.sums group item.1 g.group.width g.group.tally,
          ap (λ (n : ℕ). n * part item.1) one,
        )
    by_test false other =
        let none : group_of k group ≡ [] =
        (group_of-none k g.group.first group (g.group.alike k mask) (first ∙ other)).0 in
        let zero_of : at_codes key (key_in item.0 set) ≡ 0 = ap (λ (b : Bool). if b then 1 else 0) other in
        omega (arith, ap (sum_by of) none, ap (λ (n : ℕ). n * part item.1) zero_of)

-- of all of them
sum-gathered : (schema : Layout) (dictionaries : Dictionaries) (facts : List Fact) (items : CodedCells) (key : Codes)
    (part : Tally → ℕ) (of : Fact → ℕ) (done : List Fact) → IsBase schema dictionaries facts
    → are_codes dictionaries key.codes ≡ true → length key.codes ≡ 8 → IsPartOf (length schema.measures) part of
    → All (HasFinerGroup schema dictionaries facts (mask_of_codes key.codes)) items
    → sum_by of (group_of (key_at dictionaries key.codes) (gathered dictionaries facts items done))
    ≡ weigh (λ codes. at_codes key (key_in codes (mask_of_codes key.codes))) part items
    + sum_by of (group_of (key_at dictionaries key.codes) done)
sum-gathered schema dictionaries facts [] key part of done base valid eight is groups = omega arith
sum-gathered schema dictionaries facts (item ∷ items) key part of done base valid eight is groups =
    let P : Codes × Tally → Type 0 = HasFinerGroup schema dictionaries facts (mask_of_codes key.codes) in
    let k : Key = key_at dictionaries key.codes in
    let group : List Fact = group_of (cell_key dictionaries item) facts in
    let f : Codes → ℕ = λ codes. at_codes key (key_in codes (mask_of_codes key.codes)) in
    omega (
      arith,
      sum-gathered schema dictionaries facts items key part of (group ++ done) base valid eight is
          (All-tail P item items groups),
      ap (sum_by of) (filter-append (covers k) group done),
      sum_by-append of (group_of k group) (group_of k done),
      sum-item schema dictionaries facts item key part of base valid eight is (All-head P item items groups),
      sum_by-cons (λ (c : Codes × Tally). f c.0 * part c.1) item items,
    )

-- ---- what the walk gives
-- whether codes are of one of these sets
abbrev pub is_kept_in : List ℕ → Codes → Bool
is_kept_in sets codes = is_among (mask_of_codes codes.codes) sets

within-finest : (n set : ℕ) → set < 2 ^ n → bit_and (finest_set n) set ≡ set
within-finest n set below = All-head (λ (s : ℕ). bit_and (finest_set n) s ≡ s) set []
    (bit_and-finest_set n (set ∷ []) (All-cons (λ (s : ℕ). s < 2 ^ n) set [] below (All-nil (λ (s : ℕ). s < 2 ^ n))))

-- each part of what is found at codes is that of the facts that their key covers
part_at-group_of : (schema : Layout) (dictionaries : Dictionaries) (facts : List Fact) (sets : List ℕ)
    (items cells : CodedCells) (key : Codes) (part : Tally → ℕ) (of : Fact → ℕ)
    → AreFinest schema dictionaries facts items
    → IsWalkOf (is_kept_in sets) (length schema.dimensions) 0 items cells → is_kept_in sets key ≡ true
    → mask_of_codes key.codes < 2 ^ length schema.dimensions → are_codes dictionaries key.codes ≡ true
    → length key.codes ≡ 8 → IsPartOf (length schema.measures) part of
    → part_at part (coded_at cells key) ≡ sum_by of (group_of (key_at dictionaries key.codes) facts)
part_at-group_of schema dictionaries facts sets items cells key part of are walk kept below valid eight is =
    let n : ℕ = length schema.dimensions in
    let k : Key = key_at dictionaries key.codes in
    let finest : ℕ = finest_set n in
    let each = set_cells schema dictionaries facts items are in
    let groups : All (HasFinerGroup schema dictionaries facts (mask_of_codes key.codes)) items =
    λ i d inside. HasFinerGroup-IsSetCell schema dictionaries facts finest (mask_of_codes key.codes) (get_or items i d)
    are.base (some_finest schema dictionaries facts items are) (within-finest n (mask_of_codes key.codes) below)
    (each i d inside) in
    let moved : IsPermutation facts (gathered dictionaries facts items []) =
    gathered-IsPermutation dictionaries finest facts items are.base.texts (λ i d inside. (each i d inside).of_set)
    are.all.distinct (one_covers-HaveAll schema dictionaries facts finest items
    (omega (arith, pow-positive n)) are.base are.all) in
    let sum : sum_by of (group_of k (gathered dictionaries facts items [])) ≡ sum_by of (group_of k facts) =
    sum_by-IsPermutation of (group_of k facts) (group_of k (gathered dictionaries facts items []))
    (filter-IsPermutation (covers k) facts (gathered dictionaries facts items []) moved) in
    omega (
      arith,
      part_at-IsWalkOf (is_kept_in sets) (length schema.measures) n items cells key part walk
          (All-IsItem schema dictionaries facts items are) (All-IsFree schema dictionaries facts items are)
          (All-IsAllPast schema dictionaries facts items are) (few_dimensions are.base.is_schema) kept eight
          (λ i past small. past-are_codes dictionaries key.codes i valid (omega (arith, past, are.base.width))
          (omega (arith, small, eight))) is.is_part,
      sum-gathered schema dictionaries facts items key part of [] are.base valid eight is groups,
      sum,
    )

-- each cell is one, of a kept set
pub All-IsCodedCell : (schema : Layout) (dictionaries : Dictionaries) (facts : List Fact) (sets : List ℕ)
    (items cells : CodedCells) → AreFinest schema dictionaries facts items
    → IsWalkOf (is_kept_in sets) (length schema.dimensions) 0 items cells
    → All (IsCodedCell dictionaries (length schema.measures)) cells
All-IsCodedCell schema dictionaries facts sets items cells are walk k d inside =
    let each = walk.each (length schema.measures) (All-IsItem schema dictionaries facts items are) k d inside in
    record {
      codes = All-closed (is_kept_in sets) (λ codes. are_codes dictionaries codes.codes) (length schema.measures)
          (length schema.dimensions) 0 items cells walk (All-IsItem schema dictionaries facts items are)
          (λ i other below valid. are_codes-all_at dictionaries other.codes i valid)
          (λ i e within. (set_cells schema dictionaries facts items are i e within).of_set.valid) k d inside;
      eight = each.eight;
      width = each.width;
      some = or_right (is_total_code (get_or cells k d).0) (nat_lt 0 (get_or cells k d).1.facts)
          (lt-ltb 0 (get_or cells k d).1.facts each.some);
    }

-- the grand total covers each fact
all_stand_for-total : (coords : List Coord) (values : List (Option (List ℕ))) → list_all is_all_coord coords ≡ true
    → length coords ≡ length values → all_stand_for coords values ≡ true
all_stand_for-total [] [] all same = refl
all_stand_for-total [] (v ∷ values) all same = absurd (omega (arith, same))
all_stand_for-total (c ∷ coords) [] all same = absurd (omega (arith, same))
all_stand_for-total (coord.All ∷ coords) (v ∷ values) all same =
    all_stand_for-total coords values all (omega (arith, same))
all_stand_for-total (coord.Null ∷ coords) (v ∷ values) all same = cc all
all_stand_for-total (coord.Text name ∷ coords) (v ∷ values) all same = cc all

is_total-list_any : (schema : Layout) (facts : List Fact) (key : Key) → All (λ fact. fits schema fact ≡ true) facts
    → 0 < length facts → is_total (length schema.dimensions) key ≡ true → list_any (covers key) facts ≡ true
is_total-list_any schema [] key fit some total = absurd (omega (arith, some))
is_total-list_any schema (fact ∷ facts) key fit some total =
    let parts = and_parts (length key.coords == length schema.dimensions) (list_all is_all_coord key.coords) total in
    let width : length key.coords ≡ length fact.dims =
    eqb-true (length key.coords) (length schema.dimensions) parts.0
    ∙ sym (fits-length schema fact (All-head (λ (f : Fact). fits schema f ≡ true) fact facts fit)) in
    or_left (covers key fact) (list_any (covers key) facts) (all_stand_for-total key.coords fact.dims parts.1 width)

-- ---- codes of keys
-- the codes of a cell that is found by its key
coded_from_decoded : (dictionaries : Dictionaries) (measures : ℕ) (cells : CodedCells) (key : Key) (t : Tally)
    → All IsDictionary dictionaries → length dictionaries ≤ 8 → All (IsCodedCell dictionaries measures) cells
    → cell_at (decoded dictionaries cells) key ≡ Some t
    → (codes : Codes) × (coded_at cells codes ≡ Some t) × (key ≡ key_at dictionaries codes.codes)
coded_from_decoded dictionaries measures cells key t texts room each found =
    by_width (cases_eq (length key.coords) (length dictionaries))
  where
    by_width : (length key.coords ≡ length dictionaries) ⊎ (length key.coords ≡ length dictionaries → ⊥)
        → (codes : Codes) × (coded_at cells codes ≡ Some t) × (key ≡ key_at dictionaries codes.codes)
    by_width (inr other) = cc (sym found ∙ no_cell-width dictionaries cells key other)
    by_width (inl width) =
        let codes = key-HasCodes dictionaries key texts width room in
        let at : coded_at cells codes.0 ≡ Some t =
        sym (look_up-coded dictionaries measures cells key codes.0 codes.1 each) ∙ found in
        let valid = (IsCodedCell-coded_at dictionaries measures cells codes.0 t each at).codes in (
          codes.0,
          at,
          Key-coords key (key_at dictionaries codes.0.codes)
              (sym (coords_at-AreCodesOf dictionaries key.coords codes.0.codes codes.1.are valid)),
        )

-- a key that covers a fact has codes
pub record HasKeyCodes (dictionaries : Dictionaries) (key : Key) : Type 0 where
  pub codes : Codes
  pub valid : are_codes dictionaries codes.codes ≡ true
  pub eight : length codes.codes ≡ 8
  pub is : key ≡ key_at dictionaries codes.codes
  pub mask : mask_of_codes codes.codes ≡ mask_of key
  pub below : mask_of_codes codes.codes < 2 ^ length dictionaries

covered_codes : (schema : Layout) (dictionaries : Dictionaries) (facts : List Fact) (items : CodedCells) (key : Key)
    (fact : Fact) (item : Codes × Tally) → AreFinest schema dictionaries facts items → Contains facts fact
    → covers key fact ≡ true → Contains items item → covers (cell_key dictionaries item) fact ≡ true
    → HasKeyCodes dictionaries key
covered_codes schema dictionaries facts items key fact item are there stands among stands_item = record {
  codes = codes;
  valid = valid;
  eight = eight;
  is = covering_key-mask_of fact key stands ∙ ap (covering_key fact) (sym mask_key)
      ∙ sym (covering_key-mask_of fact k covered);
  mask = mask;
  below = subst (λ (n : ℕ). mask_of_codes codes.codes < 2 ^ n) (sym are.base.width)
      (subst (λ (m : ℕ). m < 2 ^ length schema.dimensions) (sym mask) small);
} where
  s : ℕ
  s = mask_of key

  finest : ℕ
  finest = finest_set (length schema.dimensions)

  fit : fits schema fact ≡ true
  fit = All-contains (λ (f : Fact). fits schema f ≡ true) facts fact are.base.fit there

  small : s < 2 ^ length schema.dimensions
  small = subst (λ (n : ℕ). s < 2 ^ n) (all_stand_for-length key.coords fact.dims stands ∙ fits-length schema fact fit)
      (mask_of_coords-length key.coords)

  cell : IsSetCell schema dictionaries facts finest item
  cell = All-contains (IsSetCell schema dictionaries facts finest) items item
      (set_cells schema dictionaries facts items are) among

  g : HasFinerGroup schema dictionaries facts s item
  g = HasFinerGroup-IsSetCell schema dictionaries facts finest s item are.base
      (some_finest schema dictionaries facts items are) (within-finest (length schema.dimensions) s small) cell

  codes : Codes
  codes = key_in item.0 s

  valid : are_codes dictionaries codes.codes ≡ true
  valid = are_codes-kept_codes dictionaries item.0.codes s cell.of_set.valid

  eight : length codes.codes ≡ 8
  eight = ap (λ (c : Codes). length c.codes) g.same
      ∙ (HasCodes-covering_key dictionaries g.group.first g.codes s are.base.texts g.group.has).eight

  mask : mask_of_codes codes.codes ≡ s
  mask = ap (λ (c : Codes). mask_of_codes c.codes) g.same
      ∙ mask_of_codes-kept_codes dictionaries g.group.first.dims g.codes.codes s g.group.has.are
      (subst (λ (n : ℕ). s < 2 ^ n) (sym (fits-length schema g.group.first g.group.fit)) small)

  k : Key
  k = key_at dictionaries codes.codes

  mask_key : mask_of k ≡ s
  mask_key = mask_of_coords-mask_of_codes dictionaries codes.codes are.base.texts valid ∙ mask

  first : covers k g.group.first ≡ true
  first = subst (λ (m : ℕ). (h : HasFinerGroup schema dictionaries facts m item) → mask_of_codes codes.codes ≡ m
      → covers k h.group.first ≡ same_codes codes (key_in item.0 m)) mask
      (λ h same. covers-at_codes schema dictionaries facts item codes are.base valid eight h) g mask
      ∙ same_codes-IsEquivalence.refl codes

  covered : covers k fact ≡ true
  covered = All-contains (λ (f : Fact). covers k f ≡ covers k g.group.first)
      (group_of (cell_key dictionaries item) facts) fact (g.group.alike k mask_key)
      (filter-Contains (covers (cell_key dictionaries item)) facts fact there stands_item) ∙ first

pub HasKeyCodes-list_any : (schema : Layout) (dictionaries : Dictionaries) (facts : List Fact) (items : CodedCells)
    (key : Key) → AreFinest schema dictionaries facts items → list_any (covers key) facts ≡ true
    → HasKeyCodes dictionaries key
HasKeyCodes-list_any schema dictionaries facts items key are any =
    let found = list_any-Contains (covers key) facts any in
    let fact : Fact = found.0 in
    let one : one_covers dictionaries items fact ≡ true = All-contains
    (λ (f : Fact). one_covers dictionaries items f ≡ true) facts fact
    (one_covers-HaveAll schema dictionaries facts (finest_set (length schema.dimensions)) items
    (omega (arith, pow-positive (length schema.dimensions))) are.base are.all) found.1 in
    let at = list_any-Contains (λ (c : Codes × Tally). covers (cell_key dictionaries c) fact) items one in
    covered_codes schema dictionaries facts items key fact at.0 are found.1 found.2 at.1 at.2

-- ---- the law
-- over the finest cells of some facts a walk gives the cube of them
pub IsCubeOf-IsWalkOf : (schema : Layout) (dictionaries : Dictionaries) (facts : List Fact) (sets : List ℕ)
    (items cells : CodedCells) → AreFinest schema dictionaries facts items → 0 < length facts
    → All (λ set. set < 2 ^ length schema.dimensions) sets
    → IsWalkOf (is_kept_in sets) (length schema.dimensions) 0 items cells
    → IsCubeOf (lattice_of schema sets (length facts) dictionaries cells) facts
IsCubeOf-IsWalkOf schema dictionaries facts sets items cells are some within walk = record {
  keys = λ key. by_found key (cell_at (decoded dictionaries cells) key) refl;
  tallies = λ key. tally key (cell_at (decoded dictionaries cells) key) refl;
  widths = λ key. width key (cell_at (decoded dictionaries cells) key) refl;
} where
  n : ℕ
  n = length schema.dimensions

  each : All (IsCodedCell dictionaries (length schema.measures)) cells
  each = All-IsCodedCell schema dictionaries facts sets items cells are walk

  kept : All (λ cell. is_kept_in sets cell.0 ≡ true) cells
  kept = All-kept (is_kept_in sets) (length schema.measures) n 0 items cells walk
      (All-IsItem schema dictionaries facts items are)

  below : (set : ℕ) → is_among set sets ≡ true → set < 2 ^ n
  below set among = All-is_among (λ s. s < 2 ^ n) sets set within among

  -- the codes of the cell that is found
  codes_of : (key : Key) (t : Tally) → cell_at (decoded dictionaries cells) key ≡ Some t
      → (codes : Codes) × (coded_at cells codes ≡ Some t) × (key ≡ key_at dictionaries codes.codes)
  codes_of key t found = coded_from_decoded dictionaries (length schema.measures) cells key t are.base.texts
      (omega (arith, are.base.width, few_dimensions are.base.is_schema)) each found

  parts : (codes : Codes) (t : Tally) → coded_at cells codes ≡ Some t → (part : Tally → ℕ) (of : Fact → ℕ)
      → IsPartOf (length schema.measures) part of
      → part t ≡ sum_by of (group_of (key_at dictionaries codes.codes) facts)
  parts codes t found part of is =
      let cell = IsCodedCell-coded_at dictionaries (length schema.measures) cells codes t each found in
      let is_kept : is_kept_in sets codes ≡ true = All-contains (λ (c : Codes × Tally). is_kept_in sets c.0 ≡ true) cells
      (codes, t) kept (Contains-from_lookup same_codes-exact codes t cells found) in
      ap (part_at part) (sym found) ∙ part_at-group_of schema dictionaries facts sets items cells codes part of are walk
      is_kept (below (mask_of_codes codes.codes) is_kept) cell.codes cell.eight is

  tally : (key : Key) (o : Option Tally) → cell_at (decoded dictionaries cells) key ≡ o
      → IfSome o (IsTallyOf (group_of key facts))
  tally key None found = tt
  tally key (Some t) found =
      let at = codes_of key t found in
      let wide : length t.bags ≡ length schema.measures =
      (IsCodedCell-coded_at dictionaries (length schema.measures) cells at.0 t each at.1).width in
      let of : IsTallyOf (group_of (key_at dictionaries at.0.codes) facts) t = record {
        count = parts at.0 t at.1 (λ t. t.facts) (λ _. 1) (IsPartOf-facts (length schema.measures))
            ∙ sym (length-sum (group_of (key_at dictionaries at.0.codes) facts));
        bags = λ m inside. record {
          held = λ x. parts at.0 t at.1 (λ t. held_of (bag_at t.bags m) x) (λ fact. one_of x (value_of m fact))
              (IsPartOf-held (length schema.measures) m x (omega (arith, inside, wide)))
              ∙ sym (count_by-values_of x m (group_of (key_at dictionaries at.0.codes) facts));
        };
      } in
      subst (λ (k : Key). IsTallyOf (group_of k facts) t) (sym at.2) of

  width : (key : Key) (o : Option Tally) → cell_at (decoded dictionaries cells) key ≡ o
      → IfSome o (λ t. length t.bags ≡ length schema.measures)
  width key None found = tt
  width key (Some t) found =
      let at = codes_of key t found in
      (IsCodedCell-coded_at dictionaries (length schema.measures) cells at.0 t each at.1).width

  any : (key : Key) → (is_total n key || list_any (covers key) facts) ≡ list_any (covers key) facts
  any key = by_total (is_total n key) refl where
    by_total : (b : Bool) → is_total n key ≡ b → (b || list_any (covers key) facts) ≡ list_any (covers key) facts
    by_total true total = sym (is_total-list_any schema facts key are.base.fit some total)
    by_total false other = refl

  by_found : (key : Key) (o : Option Tally) → cell_at (decoded dictionaries cells) key ≡ o
      → is_some (cell_at (decoded dictionaries cells) key) ≡ is_cell sets n facts key
  by_found key (Some t) found =
      let at = codes_of key t found in
      let cell = IsCodedCell-coded_at dictionaries (length schema.measures) cells at.0 t each at.1 in
      let item = All-contains (IsItem (length schema.measures)) cells (at.0, t)
      (walk.each (length schema.measures) (All-IsItem schema dictionaries facts items are))
      (Contains-from_lookup same_codes-exact at.0 t cells at.1) in
      let is_kept : is_kept_in sets at.0 ≡ true = All-contains (λ (c : Codes × Tally). is_kept_in sets c.0 ≡ true) cells
      (at.0, t) kept (Contains-from_lookup same_codes-exact at.0 t cells at.1) in
      let mask : mask_of key ≡ mask_of_codes at.0.codes = ap mask_of at.2
      ∙ mask_of_coords-mask_of_codes dictionaries at.0.codes are.base.texts cell.codes in
      let among : is_among (mask_of key) sets ≡ true = ap (λ (s : ℕ). is_among s sets) mask ∙ is_kept in
      let long : t.facts ≡ length (group_of key facts) =
      parts at.0 t at.1 (λ t. t.facts) (λ _. 1) (IsPartOf-facts (length schema.measures))
      ∙ sym (length-sum (group_of (key_at dictionaries at.0.codes) facts))
      ∙ ap (λ (k : Key). length (group_of k facts)) (sym at.2) in
      let covered : list_any (covers key) facts ≡ true = list_any-group_of key facts
      ∙ lt-ltb 0 (length (group_of key facts)) (omega (arith, long, item.some)) in
      ap is_some found ∙ sym (and_from (is_among (mask_of key) sets) (is_total n key || list_any (covers key) facts)
      among (any key ∙ covered))
  by_found key None found = ap is_some found ∙ sym (false_from_ne_true (is_cell sets n facts key) (λ is.
      let both = and_parts (is_among (mask_of key) sets) (is_total n key || list_any (covers key) facts) is in
      let covered : list_any (covers key) facts ≡ true = sym (any key) ∙ both.1 in
      let at = HasKeyCodes-list_any schema dictionaries facts items key are covered in
      let has : HasCodes dictionaries key at.codes = record {
        are = subst (λ (k : Key). AreCodesOf dictionaries k.coords at.codes.codes) (sym at.is)
            (AreCodesOf-coords_at dictionaries at.codes.codes are.base.texts at.valid);
        eight = at.eight;
      } in
      let none : coded_at cells at.codes ≡ None =
      sym (look_up-coded dictionaries (length schema.measures) cells key at.codes has each) ∙ found in
      let is_kept : is_kept_in sets at.codes ≡ true = ap (λ (s : ℕ). is_among s sets) at.mask ∙ both.0 in
      let count : 0 ≡ length (group_of key facts) = ap (part_at (λ t. t.facts)) (sym none)
      ∙ part_at-group_of schema dictionaries facts sets items cells at.codes (λ t. t.facts) (λ _. 1) are walk is_kept
      (below (mask_of_codes at.codes.codes) is_kept) at.valid at.eight (IsPartOf-facts (length schema.measures))
      ∙ sym (length-sum (group_of (key_at dictionaries at.codes.codes) facts))
      ∙ ap (λ (k : Key). length (group_of k facts)) (sym at.is) in
      omega (arith, count, ltb-true 0 (length (group_of key facts)) (sym (list_any-group_of key facts) ∙ covered))))

-- ---- finest cells in order
-- cells that do not fall and are apart rise
pub strictly_sorted : (cells : CodedCells) → IsSortedBy (λ a b. is_lt (codes_cmp a b)) cells → AreApart cells
    → IsStrictlySortedBy codes_cmp cells
strictly_sorted cells sorted apart =
    sorted_from_all_adjacent (on_total (λ (c : Codes × Tally). c.0.codes) nat_list_cmp_total) cells no_cell
    (λ k inside. rises k inside)
  where
    no_codes : Codes
    no_codes = record { codes = [] }

    no_cell : Codes × Tally
    no_cell = (no_codes, record { facts = 0; bags = [] })

    rises : (k : ℕ) → k + 1 < length cells
        → codes_cmp (get_or cells k no_cell) (get_or cells (k + 1) no_cell) ≡ Less
    rises k inside =
        let x : Codes × Tally = get_or cells k no_cell in
        let y : Codes × Tally = get_or cells (k + 1) no_cell in
        let at_x : get_or (keys_of cells) k no_codes ≡ x.0 =
        get_or-map (λ (c : Codes × Tally). c.0) cells k no_cell no_codes (omega (arith, inside)) in
        let at_y : get_or (keys_of cells) (k + 1) no_codes ≡ y.0 =
        get_or-map (λ (c : Codes × Tally). c.0) cells (k + 1) no_cell no_codes inside in
        let long : length (keys_of cells) ≡ length cells = length-map cells (λ (c : Codes × Tally). c.0) in
        let other : same_codes (get_or (keys_of cells) k no_codes) (get_or (keys_of cells) (k + 1) no_codes) ≡ false =
        apart_from_distinct same_codes (keys_of cells) k (k + 1) no_codes apart (omega arith)
        (omega (arith, inside, long)) in
        let differ : same_codes x.0 y.0 ≡ false = rw (at_x, at_y) at other in
        let make : List ℕ → Codes = λ xs. record { codes = xs } in
        Less-from_is_lt nat_list_cmp_total exact_bytes x.0.codes y.0.codes (sorted k no_cell (omega arith) inside)
        (λ same. apart-same_codes x.0 y.0 differ (ap make same))

-- they can be walked over
pub CanWalk-AreFinest : (schema : Layout) (dictionaries : Dictionaries) (facts : List Fact) (items : CodedCells)
    → AreFinest schema dictionaries facts items → IsStrictlySortedBy codes_cmp items
    → CanWalk (length schema.dimensions) 0 items
CanWalk-AreFinest schema dictionaries facts items are in_order =
    let left : length schema.dimensions ≡ length schema.dimensions - 0 = omega arith in (
      length schema.measures,
      subst (λ (n : ℕ). IsWalkable (length schema.measures) n 0 items) left (record {
        in_order = in_order;
        prefix = [];
        under = λ k d inside. refl;
        each = All-IsItem schema dictionaries facts items are;
        free = All-IsFree schema dictionaries facts items are;
        within = omega (arith, few_dimensions are.base.is_schema);
      }),
    )

-- in any order they are finest cells
pub AreFinest-IsPermutation : (schema : Layout) (dictionaries : Dictionaries) (facts : List Fact) (number : ℕ)
    (found items : CodedCells) → IsCoded schema (finest_set (length schema.dimensions) ∷ []) number dictionaries found
    → IsCubeOfAll facts (lattice_of schema (finest_set (length schema.dimensions) ∷ []) number dictionaries found)
    → IsPermutation found items → AreFinest schema dictionaries facts items
AreFinest-IsPermutation schema dictionaries facts number found items coded of moved =
    let sets : List ℕ = finest_set (length schema.dimensions) ∷ [] in
    let are : AreFinest schema dictionaries facts found = AreFinest-IsCoded schema dictionaries facts found
    (subst (λ (n : ℕ). IsCoded schema sets n dictionaries found) of.facts_are coded)
    (subst (λ (n : ℕ). IsCubeOfAll facts (lattice_of schema sets n dictionaries found)) of.facts_are of) in
    record {
      base = are.base;
      all = HaveAll-IsPermutation schema dictionaries facts sets found items are.base moved are.all;
    }

-- items in the order of their codes
pub sorted_items : {N : Type 0} (items : List (Item N))
    → IsSortedBy (λ a b. is_lt (slice_cmp nat_cmp a.codes.codes b.codes.codes)) items
    → IsSortedBy (λ a b. is_lt (codes_cmp a b)) (cells_of_items items)
sorted_items {N} items sorted =
    IsSortedBy-map {Y = Codes × Tally} (λ (item : Item N). (item.codes, item.cell))
    (λ a b. is_lt (slice_cmp nat_cmp a.codes.codes b.codes.codes)) (λ x y. is_lt (codes_cmp x y)) items
    (λ a b in_a in_b. refl) sorted

-- ---- the masks of kept sets
none_kept : (n mask : ℕ) → get_or (replicate n false) mask false ≡ false
none_kept zero mask = refl
none_kept (suc n) zero = refl
none_kept (suc n) (suc mask) = none_kept n mask

-- no set yet
pub kept-none : (n mask : ℕ) → get_or (replicate n false) mask false ≡ is_among mask []
kept-none n mask = none_kept n mask

-- a set more
pub kept-more : (kept : List Bool) (sets : List ℕ) (i set_here : ℕ) → i < length sets
    → set_here ≡ get_or sets i set_here → set_here < length kept
    → ((mask : ℕ) → get_or kept mask false ≡ is_among mask (take i sets)) → (mask : ℕ)
    → get_or (set kept set_here true) mask false ≡ is_among mask (take (i + 1) sets)
kept-more kept sets i set_here inside is small each mask =
    by_mask (cases_eq mask set_here)
    ∙ sym (list_any_more (λ other. other == mask) sets i set_here inside
    ∙ ap (λ (s : ℕ). is_among mask (take i sets) || (s == mask)) (sym is))
  where
    or_false : (b : Bool) → (b || false) ≡ b
    or_false true = refl
    or_false false = refl

    by_mask : (mask ≡ set_here) ⊎ (mask ≡ set_here → ⊥)
        → get_or (set kept set_here true) mask false ≡ (is_among mask (take i sets) || (set_here == mask))
    by_mask (inl same) =
        ap (λ (m : ℕ). get_or (set kept set_here true) m false) same
        ∙ get_or-set_same kept set_here true false small
        ∙ sym (or_right (is_among mask (take i sets)) (set_here == mask) (eq-eqb set_here mask (sym same)))
    by_mask (inr other) =
        get_or-set_other kept set_here mask true false other ∙ each mask
        ∙ sym (ap (λ (b : Bool). is_among mask (take i sets) || b) (ne_eqb set_here mask (λ same. other (sym same)))
        ∙ or_false (is_among mask (take i sets)))
