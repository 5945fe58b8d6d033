-- The cube of one fact, and that of none.
use Rattle.std.proofs.Common.{◌≡◌, ◌⊎◌, ◌↔◌, ◌*◌, ◌^◌, ◌<◌, ◌≤◌, ◌==◌, ◌||◌, ◌+ℤ◌, ℕ, zero, suc, ℤ, pos, IsTrue}
use Rattle.std.proofs.Common.{true, false, List, [], ◌∷◌, length, map, Option, Some, None, Contains, refl, sym, ap}
use Rattle.std.proofs.Common.{ap₂, ◌∙◌, subst, inl, inr, arith}
use Rattle.std.specs.List.{AllByRecursion, AllZip, cons_option, list_any, list_all}
use Rattle.std.specs.List.Sorted.{IsStrictlySortedBy}
use Rattle.std.proofs.Math.Nat.{one-dvd, pow-suc}
use Rattle.std.proofs.lemmas.Bool.{and_from, and_parts, or_cases, or_right, eq-eqb, eqb-true, false≢true}
use Rattle.std.proofs.lemmas.Int.{ints}
use Rattle.std.proofs.lemmas.List.{length-map}
use Rattle.std.proofs.lemmas.List.Sums.{sum_by-cons}
use Rattle.std.proofs.lemmas.Map.Steps.{le-length_from_below}
use Rattle.std.proofs.lemmas.Nat.Gcd.{IsGcd-from_mod, IsGcd-from_zero}
use Rattle.std.proofs.lemmas.Slice.Eq.{bytes_eq-Decides}
use Rattle.cube_core.specs.Answer.{IsAnswer, IsSum, IsLeast, IsGreatest, IsMean, IsDistinctCount, IsPercentile}
use Rattle.cube_core.specs.Answer.{AreAnswers, AreValues, IsSumOfSquares, IsVarianceAnswer}
use Rattle.cube_core.specs.Covers.{covers, all_stand_for, stands_for}
use Rattle.cube_core.specs.Cube.{HasAnswers, key_of, is_cell, is_total}
use Rattle.cube_core.specs.Group.{value_of}
use Rattle.cube_core.specs.GroupingSet.{all_sets, is_all_coord, is_among, mask_of}
use Rattle.cube_core.specs.Layout.{Layout, keeps, number_of_dimensions}
use Rattle.cube_core.specs.Variance.{IsVariance, square}
use Rattle.cube_core.specs.declared.aggregate.Agg.{Agg}
use Rattle.cube_core.specs.declared.aggregate.Agg.TheVariants as agg
use Rattle.cube_core.specs.declared.aggregate.Answer.{Answer}
use Rattle.cube_core.specs.declared.aggregate.Answer.TheVariants as answer
use Rattle.cube_core.specs.declared.fact.Fact.{Fact}
use Rattle.cube_core.specs.declared.key.Coord.{Coord}
use Rattle.cube_core.specs.declared.key.Coord.TheVariants as coord
use Rattle.cube_core.specs.declared.key.Key.{Key}
use Rattle.cube_core.specs.declared.key.Row.{Row}
use Rattle.cube_core.proofs.AncestorLaws.{all_stand_for-ancestor_of, mask_of_coords-ancestor_of, mask_of_coords-All}
use Rattle.cube_core.proofs.CellKeyLaws.{Key-coords}
use Rattle.cube_core.proofs.GroupingLaws.{list_any-all_sets}
use Rattle.cube_core.proofs.LifeLaws.{bytes_eq-itself}
use Rattle.cube_core.proofs.ListLaws.{AllByRecursion-Contains, Contains-AllByRecursion, Contains-cases, Contains-head}
use Rattle.cube_core.proofs.ListLaws.{Contains-list_any, Contains-nil, filter-passed, map-Contains}
use Rattle.cube_core.proofs.VarianceLaws.{deviations_are_spread}
use Rattle.cube_laws.specs.Cells.{AreCountedRows, most_cells}
use Rattle.cube_laws.specs.Single.{HasValuesOrAll, coord_for, count_of_value, answer_of_value, mean_of_value}
use Rattle.cube_laws.specs.Single.{answer_of_fact, answer_of_none, all_coords, total_of_none}
use Rattle.cube_laws.specs.Single.{squares_of_value, values_of_value, variance_of_value}
use Rattle.cube_laws.proofs.CellCountLaws.{AreRows-most_cells}
use Rattle.cube_laws.proofs.CountLaws.{key_in_set}
use Rattle.cube_laws.proofs.HolisticLaws.{IsPercentile-Contains}
use Rattle.cube_laws.proofs.RowLaws.{AreRowsOver-unique, IsAnswer-unique}

-- ---- the keys that cover a fact have its values or ALL
stands_for-coord_for : (c : Coord) (value : Option (List ℕ)) → stands_for c value ≡ true
    → (c ≡ coord.All) ⊎ (c ≡ coord_for value)
stands_for-coord_for coord.All value stands = inl refl
stands_for-coord_for coord.Null None stands = inr refl
stands_for-coord_for coord.Null (Some text) stands = cc
stands_for-coord_for (coord.Text name) None stands = cc
stands_for-coord_for (coord.Text name) (Some text) stands =
    inr (ap coord.Text ((bytes_eq-Decides name text).0 stands))

coord_for-stands_for : (value : Option (List ℕ)) → stands_for (coord_for value) value ≡ true
coord_for-stands_for None = refl
coord_for-stands_for (Some text) = bytes_eq-itself text

all_stand_for-AllZip : (coords : List Coord) (values : List (Option (List ℕ))) → all_stand_for coords values ≡ true
    → AllZip (λ c value. (c ≡ coord.All) ⊎ (c ≡ coord_for value)) coords values
all_stand_for-AllZip [] [] stand = tt
all_stand_for-AllZip [] (value ∷ values) stand = cc
all_stand_for-AllZip (c ∷ coords) [] stand = cc
all_stand_for-AllZip (c ∷ coords) (value ∷ values) stand =
    let parts = and_parts (stands_for c value) (all_stand_for coords values) stand in
    (stands_for-coord_for c value parts.0, all_stand_for-AllZip coords values parts.1)

AllZip-all_stand_for : (coords : List Coord) (values : List (Option (List ℕ)))
    → AllZip (λ c value. (c ≡ coord.All) ⊎ (c ≡ coord_for value)) coords values → all_stand_for coords values ≡ true
AllZip-all_stand_for [] [] all = refl
AllZip-all_stand_for [] (value ∷ values) all = absurd all
AllZip-all_stand_for (c ∷ coords) [] all = absurd all
AllZip-all_stand_for (c ∷ coords) (value ∷ values) all =
    and_from (stands_for c value) (all_stand_for coords values)
    (elim all.0 [
      | inl is ↦ ap (λ other. stands_for other value) is
      | inr is ↦ ap (λ other. stands_for other value) is ∙ coord_for-stands_for value
    ])
    (AllZip-all_stand_for coords values all.1)

-- the grand total covers each fact
all_stand_for-total : (coords : List Coord) (values : List (Option (List ℕ))) → length coords ≡ length values
    → list_all is_all_coord coords ≡ true → all_stand_for coords values ≡ true
all_stand_for-total [] [] long all = refl
all_stand_for-total [] (value ∷ values) long all = absurd (omega (arith, long))
all_stand_for-total (c ∷ coords) [] long all = absurd (omega (arith, long))
all_stand_for-total (coord.All ∷ coords) (value ∷ values) long all =
    all_stand_for-total coords values (omega (arith, long)) all
all_stand_for-total (coord.Null ∷ coords) (value ∷ values) long all = cc
all_stand_for-total (coord.Text name ∷ coords) (value ∷ values) long all = cc

-- so the cells of one fact are the keys that cover it
is_cell-covers : (s : Layout) (fact : Fact) (key : Key) → length fact.dims ≡ number_of_dimensions s
    → is_cell s.grouping_sets (number_of_dimensions s) (fact ∷ []) key ≡ true
    → (keeps s key ≡ true) × (covers key fact ≡ true)
is_cell-covers s fact key wide cell =
    let dimensions = number_of_dimensions s in
    let parts = and_parts (keeps s key) (is_total dimensions key || list_any (covers key) (fact ∷ [])) cell in (
      parts.0,
      elim (or_cases (is_total dimensions key) (list_any (covers key) (fact ∷ [])) parts.1) [
        | inl total ↦
            let is = and_parts (length key.coords == dimensions) (list_all is_all_coord key.coords) total in
            all_stand_for-total key.coords fact.dims (eqb-true (length key.coords) dimensions is.0 ∙ sym wide) is.1
        | inr some ↦ elim (or_cases (covers key fact) false some) [ inl covered ↦ covered | inr none ↦ cc ]
      ],
    )

covers-is_cell : (s : Layout) (fact : Fact) (key : Key) → keeps s key ≡ true → covers key fact ≡ true
    → is_cell s.grouping_sets (number_of_dimensions s) (fact ∷ []) key ≡ true
covers-is_cell s fact key kept covered =
    and_from (keeps s key) (is_total (number_of_dimensions s) key || list_any (covers key) (fact ∷ [])) kept
    (or_right (is_total (number_of_dimensions s) key) (list_any (covers key) (fact ∷ []))
    (ap (λ b. b || false) covered))

pub AreRows-HasValuesOrAll : (s : Layout) (fact : Fact) (rows : List Row) (key : Key)
    → length fact.dims ≡ number_of_dimensions s → AreCountedRows s (fact ∷ []) rows
    → Contains (map key_of rows) key ↔ (IsTrue (keeps s key) × HasValuesOrAll fact key)
AreRows-HasValuesOrAll s fact rows key wide are = (
  λ among.
      let found = is_cell-covers s fact key wide ((are.cells key).0 among) in
      (found.0, all_stand_for-AllZip key.coords fact.dims found.1),
  λ told.
      (are.cells key).1 (covers-is_cell s fact key told.0 (AllZip-all_stand_for key.coords fact.dims told.1)),
)

-- ---- their number
singles : List (Option (List ℕ)) → List (List (Option (List ℕ)))
singles values = map (λ value. value ∷ []) values

most_cells-singles : (values : List (Option (List ℕ))) → most_cells (singles values) ≡ 2 ^ length values
unfolding singles
most_cells-singles [] = refl
most_cells-singles (value ∷ values) =
    ap (λ n. 2 * n) (most_cells-singles values) ∙ omega (arith, pow-suc 2 (length values))

singles-Contains : (values : List (Option (List ℕ))) → AllZip Contains (singles values) values
unfolding singles
singles-Contains [] = tt
singles-Contains (value ∷ values) = (Contains-head value [], singles-Contains values)

pub AreRows-count : (s : Layout) (fact : Fact) (rows : List Row) → length fact.dims ≡ number_of_dimensions s
    → s.grouping_sets ≡ all_sets (number_of_dimensions s) → AreCountedRows s (fact ∷ []) rows
    → length rows ≡ 2 ^ number_of_dimensions s
unfolding singles
AreRows-count s fact rows wide all are =
    let at_most : length rows ≤ most_cells (singles fact.dims)
    = AreRows-most_cells s (fact ∷ []) rows (singles fact.dims) are (length-map fact.dims (λ value. value ∷ []) ∙ wide)
    (singles-Contains fact.dims, tt) in
    let product : most_cells (singles fact.dims) ≡ 2 ^ number_of_dimensions s
    = most_cells-singles fact.dims ∙ ap (λ n. 2 ^ n) wide in
    let masks : List ℕ = map mask_of (map key_of rows) in
    let at_least : 2 ^ number_of_dimensions s ≤ length masks = le-length_from_below masks (2 ^ number_of_dimensions s) each in
    omega (arith, at_most, product, at_least, length-map (map key_of rows) mask_of, length-map rows key_of)
  where
    each : (set : ℕ) → set < 2 ^ number_of_dimensions s
        → list_any (λ other. set == other) (map mask_of (map key_of rows)) ≡ true
    each set below =
        let key = key_in_set set fact in
        let within : set < 2 ^ length fact.dims = subst (λ n. set < 2 ^ n) (sym wide) below in
        let mask : mask_of key ≡ set = mask_of_coords-ancestor_of fact.dims set within in
        let kept : keeps s key ≡ true =
        ap₂ (λ sets m. is_among m sets) all mask
        ∙ list_any-all_sets set (number_of_dimensions s) (λ other. other == set) below (eq-eqb set set refl) in
        let among = (are.cells key).1 (covers-is_cell s fact key kept (all_stand_for-ancestor_of fact.dims set)) in
        Contains-list_any (λ other. set == other) (map mask_of (map key_of rows)) (mask_of key)
        (map-Contains mask_of (map key_of rows) key among) (eq-eqb set (mask_of key) (sym mask))

-- ---- their answers
plus-none : (value : ℤ) → value +ℤ pos 0 ≡ value
plus-none value = omega (arith, ints)

Count-one : (value : Option ℤ) → count_of_value value ≡ answer.Count (length (cons_option value []))
Count-one None = refl
Count-one (Some value) = refl

IsSum-one : (value : Option ℤ) → IsSum (cons_option value []) (answer_of_value value)
IsSum-one None = refl
IsSum-one (Some value) = ap answer.Whole (sym (plus-none value))

IsLeast-one : (value : Option ℤ) → IsLeast (cons_option value []) (answer_of_value value)
IsLeast-one None = refl
IsLeast-one (Some value) = (value, refl, Contains-head value [], (omega (arith, ints), tt))

IsGreatest-one : (value : Option ℤ) → IsGreatest (cons_option value []) (answer_of_value value)
IsGreatest-one None = refl
IsGreatest-one (Some value) = (value, refl, Contains-head value [], (omega (arith, ints), tt))

IsMean-one : (value : Option ℤ) → IsMean (cons_option value []) (mean_of_value value)
IsMean-one None = refl
IsMean-one (Some value) = (
  value,
  1,
  refl,
  record {
    positive = omega arith;
    coprime = IsGcd-from_mod _ 1 1 (IsGcd-from_zero 1 _ (omega arith));
    equal = omega (arith, ints);
  },
)

IsDistinctCount-one : (value : Option ℤ) → IsDistinctCount (cons_option value []) (count_of_value value)
unfolding IsStrictlySortedBy
IsDistinctCount-one None = ([], tt, λ x. (λ h. h, λ h. h), refl)
IsDistinctCount-one (Some value) = (value ∷ [], (tt, tt), λ x. (λ h. h, λ h. h), refl)

IsPercentile-one : (units places : ℕ) (value : Option ℤ) (a : Answer)
    → IsPercentile units places (cons_option value []) a → a ≡ answer_of_value value
IsPercentile-one units places None a h = h
IsPercentile-one units places (Some value) a h =
    let (w, is, among) = IsPercentile-Contains units places value [] a h in
    elim (Contains-cases value [] w among) [
      | inl same ↦ is ∙ ap answer.Whole (sym same)
      | inr none ↦ absurd (Contains-nil w none)
    ]

IsSumOfSquares-one : (value : Option ℤ) → IsSumOfSquares (cons_option value []) (squares_of_value value)
IsSumOfSquares-one None = refl
IsSumOfSquares-one (Some value) = ap answer.Squares (omega (arith, sum_by-cons square value []))

-- the variance of one value is 0, and as a sample it is null
IsVariance-one : (value : ℤ) → IsVariance (value ∷ []) false 0 1
IsVariance-one value = record {
  fraction = record {
    some = omega arith;
    positive = omega arith;
    coprime = (one-dvd 0, one-dvd 1, λ d p q. q);
    equal = omega (arith, deviations_are_spread (value ∷ []));
  };
}

IsVarianceAnswer-one : (value : Option ℤ) → IsVarianceAnswer false (cons_option value []) (variance_of_value value)
IsVarianceAnswer-one None = refl
IsVarianceAnswer-one (Some value) = IsVariance-one value

IsVarianceAnswer-sample : (value : Option ℤ) → IsVarianceAnswer true (cons_option value []) answer.Null
IsVarianceAnswer-sample None = refl
IsVarianceAnswer-sample (Some value) = refl

-- its values are it alone, held once
AreValues-one : (value : Option ℤ) → AreValues (cons_option value []) (values_of_value value)
unfolding IsStrictlySortedBy
AreValues-one None = ([], refl, record { ascending = tt; some = tt; same = λ x. refl })
AreValues-one (Some value) = (
  (value, 1) ∷ [],
  refl,
  record { ascending = (tt, tt); some = (omega arith, tt); same = λ x. refl },
)

IsAnswer-one : (fact : Fact) (aggregate : Agg) (a : Answer) → IsAnswer (fact ∷ []) aggregate a
    → a ≡ answer_of_fact fact aggregate
IsAnswer-one fact agg.CountAll a h = h
IsAnswer-one fact (agg.Count m) a h = h ∙ sym (Count-one (value_of m fact))
IsAnswer-one fact (agg.Sum m) a h =
    IsAnswer-unique (fact ∷ []) (agg.Sum m) a (answer_of_value (value_of m fact)) h (IsSum-one (value_of m fact))
IsAnswer-one fact (agg.Min m) a h =
    IsAnswer-unique (fact ∷ []) (agg.Min m) a (answer_of_value (value_of m fact)) h (IsLeast-one (value_of m fact))
IsAnswer-one fact (agg.Max m) a h =
    IsAnswer-unique (fact ∷ []) (agg.Max m) a (answer_of_value (value_of m fact)) h (IsGreatest-one (value_of m fact))
IsAnswer-one fact (agg.Avg m) a h =
    IsAnswer-unique (fact ∷ []) (agg.Avg m) a (mean_of_value (value_of m fact)) h (IsMean-one (value_of m fact))
IsAnswer-one fact (agg.CountDistinct m) a h =
    IsAnswer-unique (fact ∷ []) (agg.CountDistinct m) a (count_of_value (value_of m fact)) h
    (IsDistinctCount-one (value_of m fact))
IsAnswer-one fact (agg.PercentileDisc m units places) a h = IsPercentile-one units places (value_of m fact) a h
IsAnswer-one fact (agg.SumOfSquares m) a h =
    IsAnswer-unique (fact ∷ []) (agg.SumOfSquares m) a (squares_of_value (value_of m fact)) h
    (IsSumOfSquares-one (value_of m fact))
IsAnswer-one fact (agg.VarPop m) a h =
    IsAnswer-unique (fact ∷ []) (agg.VarPop m) a (variance_of_value (value_of m fact)) h
    (IsVarianceAnswer-one (value_of m fact))
IsAnswer-one fact (agg.VarSamp m) a h =
    IsAnswer-unique (fact ∷ []) (agg.VarSamp m) a answer.Null h (IsVarianceAnswer-sample (value_of m fact))
IsAnswer-one fact (agg.Values m) a h =
    IsAnswer-unique (fact ∷ []) (agg.Values m) a (values_of_value (value_of m fact)) h (AreValues-one (value_of m fact))

AreAnswers-one : (fact : Fact) (aggregates : List Agg) (answers : List Answer)
    → AreAnswers (fact ∷ []) aggregates answers → answers ≡ map (answer_of_fact fact) aggregates
AreAnswers-one fact [] [] all = refl
AreAnswers-one fact [] (a ∷ answers) all = absurd all
AreAnswers-one fact (aggregate ∷ aggregates) [] all = absurd all
AreAnswers-one fact (aggregate ∷ aggregates) (a ∷ answers) all =
    ap₂ (λ x xs. x ∷ xs) (IsAnswer-one fact aggregate a all.0) (AreAnswers-one fact aggregates answers all.1)

pub AreRows-answers : (s : Layout) (fact : Fact) (rows : List Row) → length fact.dims ≡ number_of_dimensions s
    → AreCountedRows s (fact ∷ []) rows → AllByRecursion (λ row. row.answers ≡ map (answer_of_fact fact) s.aggregates) rows
AreRows-answers s fact rows wide are =
    Contains-AllByRecursion (λ row. row.answers ≡ map (answer_of_fact fact) s.aggregates) rows (λ row among.
    let found =
    is_cell-covers s fact row.key wide ((are.cells row.key).0 (map-Contains key_of rows row among)) in
    let answers =
    AllByRecursion-Contains (HasAnswers s.aggregates (fact ∷ [])) rows row are.answers among in
    AreAnswers-one fact s.aggregates row.answers
    (subst (λ group. AreAnswers group s.aggregates row.answers)
    (filter-passed (covers row.key) fact [] found.1) answers))

-- ---- the cube of no fact
IsAnswer-none : (aggregate : Agg) → IsAnswer [] aggregate (answer_of_none aggregate)
IsAnswer-none agg.CountAll = refl
IsAnswer-none (agg.Count m) = refl
IsAnswer-none (agg.Sum m) = refl
IsAnswer-none (agg.Min m) = refl
IsAnswer-none (agg.Max m) = refl
IsAnswer-none (agg.Avg m) = refl
IsAnswer-none (agg.CountDistinct m) = IsDistinctCount-one None
IsAnswer-none (agg.PercentileDisc m units places) = refl
IsAnswer-none (agg.SumOfSquares m) = refl
IsAnswer-none (agg.VarPop m) = refl
IsAnswer-none (agg.VarSamp m) = refl
IsAnswer-none (agg.Values m) = AreValues-one None

AreAnswers-none : (aggregates : List Agg) → AreAnswers [] aggregates (map answer_of_none aggregates)
AreAnswers-none [] = tt
AreAnswers-none (aggregate ∷ aggregates) = (IsAnswer-none aggregate, AreAnswers-none aggregates)

-- the coordinates of the grand total are these
all_coords-total : (dimensions : ℕ) (coords : List Coord) → length coords ≡ dimensions
    → list_all is_all_coord coords ≡ true → all_coords dimensions ≡ coords
all_coords-total zero [] long all = refl
all_coords-total zero (c ∷ coords) long all = absurd (omega (arith, long))
all_coords-total (suc dimensions) [] long all = absurd (omega (arith, long))
all_coords-total (suc dimensions) (coord.All ∷ coords) long all =
    ap (λ rest. coord.All ∷ rest) (all_coords-total dimensions coords (omega (arith, long)) all)
all_coords-total (suc dimensions) (coord.Null ∷ coords) long all = cc
all_coords-total (suc dimensions) (coord.Text name ∷ coords) long all = cc

all_coords-length : (dimensions : ℕ) → length (all_coords dimensions) ≡ dimensions
all_coords-length zero = refl
all_coords-length (suc dimensions) = ap suc (all_coords-length dimensions)

all_coords-all : (dimensions : ℕ) → list_all is_all_coord (all_coords dimensions) ≡ true
all_coords-all zero = refl
all_coords-all (suc dimensions) = all_coords-all dimensions

abbrev total_key : ℕ → Key
total_key dimensions = record { coords = all_coords dimensions }

-- a cell over no fact is the grand total
is_cell-none : (sets : List ℕ) (dimensions : ℕ) (key : Key) → is_cell sets dimensions [] key ≡ true
    → (is_among 0 sets ≡ true) × (total_key dimensions ≡ key)
is_cell-none sets dimensions key cell =
    let parts = and_parts (is_among (mask_of key) sets) (is_total dimensions key || false) cell in
    let total : is_total dimensions key ≡ true =
    elim (or_cases (is_total dimensions key) false parts.1) [ inl is ↦ is | inr none ↦ cc ] in
    let is = and_parts (length key.coords == dimensions) (list_all is_all_coord key.coords) total in (
      ap (λ m. is_among m sets) (sym (mask_of_coords-All key.coords is.1)) ∙ parts.0,
      Key-coords (total_key dimensions) key
          (all_coords-total dimensions key.coords (eqb-true (length key.coords) dimensions is.0) is.1),
    )

total_key-is_cell : (sets : List ℕ) (dimensions : ℕ) → is_among 0 sets ≡ true
    → is_cell sets dimensions [] (total_key dimensions) ≡ true
total_key-is_cell sets dimensions kept =
    and_from (is_among (mask_of (total_key dimensions)) sets) (is_total dimensions (total_key dimensions) || false)
    (ap (λ m. is_among m sets) (mask_of_coords-All (all_coords dimensions) (all_coords-all dimensions)) ∙ kept)
    (ap (λ b. b || false) (and_from (length (all_coords dimensions) == dimensions)
    (list_all is_all_coord (all_coords dimensions)) (eq-eqb _ _ (all_coords-length dimensions))
    (all_coords-all dimensions)))

total_of_none-AreRows : (s : Layout) → is_among 0 s.grouping_sets ≡ true → AreCountedRows s [] (total_of_none s ∷ [])
unfolding IsStrictlySortedBy
total_of_none-AreRows s kept = record {
  cells = λ key. (
    λ among. elim (Contains-cases (total_key (number_of_dimensions s)) [] key among) [
      | inl is ↦ subst (λ k. is_cell s.grouping_sets (number_of_dimensions s) [] k ≡ true) is
          (total_key-is_cell s.grouping_sets (number_of_dimensions s) kept)
      | inr none ↦ absurd (Contains-nil key none)
    ],
    λ cell. subst (Contains (total_key (number_of_dimensions s) ∷ []))
        (is_cell-none s.grouping_sets (number_of_dimensions s) key cell).1
        (Contains-head (total_key (number_of_dimensions s)) []),
  );
  ordered = (tt, tt);
  answers = (AreAnswers-none s.aggregates, tt);
}

no_row-AreRows : (s : Layout) → is_among 0 s.grouping_sets ≡ false → AreCountedRows s [] []
unfolding IsStrictlySortedBy
no_row-AreRows s none = record {
  cells = λ key. (
    λ among. absurd (Contains-nil key among),
    λ cell. absurd (false≢true (sym none ∙ (is_cell-none s.grouping_sets (number_of_dimensions s) key cell).0)),
  );
  ordered = tt;
  answers = tt;
}

pub AreRows-none : (s : Layout) (rows : List Row) → is_among 0 s.grouping_sets ≡ true → AreCountedRows s [] rows
    → rows ≡ total_of_none s ∷ []
AreRows-none s rows kept are =
    AreRowsOver-unique s.grouping_sets (number_of_dimensions s) s.aggregates [] rows (total_of_none s ∷ []) are
    (total_of_none-AreRows s kept)

pub AreRows-no_row : (s : Layout) (rows : List Row) → is_among 0 s.grouping_sets ≡ false → AreCountedRows s [] rows
    → rows ≡ []
AreRows-no_row s rows none are =
    AreRowsOver-unique s.grouping_sets (number_of_dimensions s) s.aggregates [] rows [] are (no_row-AreRows s none)
