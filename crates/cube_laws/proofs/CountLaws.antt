-- Each fact is in the group of one cell of each grouping set.
use Rattle.std.proofs.Common.{◌≡◌, ℕ, zero, suc, ◌^◌, ◌<◌, ◌==◌, ◌||◌, Bool, true, List, [], ◌∷◌, length, map, get_or}
use Rattle.std.proofs.Common.{filter, sum_by, count_by, slice_get, Contains, Option, Some, refl, sym, ap, ◌∙◌, subst}
use Rattle.std.proofs.Common.{arith, eqb-true, eq-eqb, pos, ◌-◌, ℤ}
use Rattle.std.proofs.lemmas.List.{length-take-le}
use Rattle.std.specs.List.{AllByRecursion, list_any, list_all}
use Rattle.std.proofs.lemmas.Bool.{and_parts, and_from, or_right}
use Rattle.std.proofs.lemmas.List.Concat.{length-flat_map}
use Rattle.std.proofs.lemmas.List.Kept.{IsStrictlySortedBy-filter}
use Rattle.cube_core.specs.Layout.{Layout, number_of_dimensions}
use Rattle.cube_core.specs.Answer.{IsAnswer, AreAnswers}
use Rattle.cube_core.specs.Covers.{covers, all_stand_for}
use Rattle.cube_core.specs.Cube.{HasAnswers, key_of, is_total}
use Rattle.cube_core.specs.Group.{group_of}
use Rattle.cube_core.specs.GroupingSet.{is_all_coord, is_among, mask_of}
use Rattle.cube_laws.specs.Cells.{AreCountedRows, all_counted, HaveDimensions, rows_in_set, group_size, answer_at, count_at}
use Rattle.cube_core.specs.Merged.{count_answered}
use Rattle.cube_core.specs.Order.{key_cmp}
use Rattle.cube_core.specs.TextPlaces.{counted, counted_by, text_number}
use Rattle.cube_core.specs.declared.aggregate.Agg.{Agg}
use Rattle.cube_core.specs.declared.aggregate.Agg.TheVariants as agg
use Rattle.cube_core.specs.declared.aggregate.Answer.{Answer}
use Rattle.cube_core.specs.declared.aggregate.Answer.TheVariants as answer
use Rattle.cube_core.specs.declared.fact.Fact.{Fact}
use Rattle.cube_core.specs.declared.key.Coord.{Coord}
use Rattle.cube_core.specs.declared.key.Coord.TheVariants as coord
use Rattle.cube_core.specs.declared.key.Key.{Key}
use Rattle.cube_core.specs.declared.key.Row.{Row}
use Rattle.cube_laws.proofs.RowOrderLaws.{length-Reordered}
use Rattle.cube_laws.proofs.GroupCountLaws.{count_by-one, SharedOut, joined_groups-filter}
use Rattle.cube_core.proofs.KeyOrderLaws.{key_cmp-IsTotalOrder}
use Rattle.cube_core.proofs.AncestorLaws.{ancestor_of, all_stand_for-ancestor_of, mask_of_coords-ancestor_of}
use Rattle.cube_core.proofs.AncestorLaws.{all_stand_for-mask_of_coords}
use Rattle.cube_core.proofs.ListLaws.{AllByRecursion-Contains, Contains-AllByRecursion, Contains-filter}
use Rattle.cube_core.proofs.ListLaws.{Contains-list_any, filter-Contains, filter-all, map-filter, sum_by-map}
use Rattle.cube_core.proofs.ListLaws.{sum_by-same}
use Rattle.cube_core.proofs.CellKeyLaws.{Key-coords}

-- a fact has as many values and nulls as there are dimensions
pub HaveDimensions-Contains : (dimensions : ℕ) (facts : List Fact) (fact : Fact) → HaveDimensions dimensions facts →
    Contains facts fact → length fact.dims ≡ dimensions
HaveDimensions-Contains dimensions facts fact dims among =
    AllByRecursion-Contains (λ (f : Fact). length f.dims ≡ dimensions) facts fact dims among

-- whether a key is in a grouping set
abbrev is_in_set : ℕ → Key → Bool
is_in_set set key = mask_of key == set

-- the key that covers a fact in a grouping set
abbrev pub key_in_set : ℕ → Fact → Key
key_in_set set fact = record { coords = ancestor_of fact.dims set }

module _ (s : Layout) (facts : List Fact) (rows : List Row) (are : AreCountedRows s facts rows) where
  -- the key of each fact's grouping set is a cell
  pub AreRows-covers : (key : Key) (fact : Fact) → Contains facts fact → covers key fact ≡ true →
      is_among (mask_of key) s.grouping_sets ≡ true → Contains (map key_of rows) key
  AreRows-covers key fact among covered kept =
      let dimensions = number_of_dimensions s in
      let has_fact : list_any (covers key) facts ≡ true = Contains-list_any (covers key) facts fact among covered in
      (are.cells key).1
      (and_from (is_among (mask_of key) s.grouping_sets) (is_total dimensions key || list_any (covers key) facts) kept
      (or_right (is_total dimensions key) (list_any (covers key) facts) has_fact))

  -- the keys of the rows of a grouping set
  abbrev keys_in_set : ℕ → List Key
  keys_in_set set = filter (is_in_set set) (map key_of rows)

  -- one key of a grouping set covers a fact
  pub keys_in_set-one : (set : ℕ) (fact : Fact) → set < 2 ^ number_of_dimensions s → is_among set s.grouping_sets ≡ true
      → Contains facts fact →
      length fact.dims ≡ number_of_dimensions s →
      count_by (λ key. covers key fact) (keys_in_set set) ≡ 1
  keys_in_set-one set fact below kept among dims =
      let one : Key = key_in_set set fact in
      let mask : mask_of one ≡ set =
      mask_of_coords-ancestor_of fact.dims set (subst (λ n. set < 2 ^ n) (sym dims) below) in
      let covered : covers one fact ≡ true = all_stand_for-ancestor_of fact.dims set in
      let is_kept : is_among (mask_of one) s.grouping_sets ≡ true = ap (λ n. is_among n s.grouping_sets) mask ∙ kept in
      count_by-one key_cmp-IsTotalOrder (λ key. covers key fact) one (keys_in_set set)
      (IsStrictlySortedBy-filter key_cmp (is_in_set set) (map key_of rows) are.ordered)
      (filter-Contains (is_in_set set) (map key_of rows) one (AreRows-covers one fact among covered is_kept)
      (eq-eqb (mask_of one) set mask))
      covered
      (λ key key_among key_covers.
      let in_set : mask_of key ≡ set =
      eqb-true (mask_of key) set (Contains-filter (is_in_set set) (map key_of rows) key key_among).1 in
      Key-coords key one
      (all_stand_for-mask_of_coords key.coords one.coords fact.dims key_covers covered (in_set ∙ sym mask)))

  -- the groups of the rows of a grouping set have each fact once
  pub rows_in_set-group_size : (set : ℕ) → HaveDimensions (number_of_dimensions s) facts → set < 2 ^ number_of_dimensions s
      → is_among set s.grouping_sets ≡ true →
      sum_by (group_size facts) (rows_in_set set rows) ≡ length facts
  rows_in_set-group_size set dims below kept =
      let keys : List Key = keys_in_set set in
      let shared : AllByRecursion (SharedOut keys (λ _. true)) facts
      = Contains-AllByRecursion (SharedOut keys (λ _. true)) facts (λ fact among. record {
        one = λ _. keys_in_set-one set fact below kept among
            (HaveDimensions-Contains (number_of_dimensions s) facts fact dims among);
        no_other = λ never. cc;
      }) in
      sym (sum_by-map key_of (λ key. length (group_of key facts)) (rows_in_set set rows))
      ∙ ap (sum_by (λ key. length (group_of key facts))) (map-filter key_of (is_in_set set) rows)
      ∙ sym (length-flat_map (λ key. group_of key facts) keys)
      ∙ length-Reordered (joined_groups-filter keys (λ _. true) facts shared)
      ∙ ap length (filter-all (λ _. true) facts (Contains-AllByRecursion (λ _. true ≡ true) facts (λ _ _. refl)))

-- the answer of an aggregate stands at its place
pub AreAnswers-slice_get : (group : List Fact) (aggregates : List Agg) (answers : List Answer) (place : ℕ)
    (aggregate : Agg) →
    AreAnswers group aggregates answers → slice_get aggregates place ≡ Some aggregate →
    IsAnswer group aggregate (get_or answers place answer.Null)
AreAnswers-slice_get group [] answers place aggregate h at_place = cc
AreAnswers-slice_get group (a ∷ aggregates) [] place aggregate h at_place = elim h [ ]
AreAnswers-slice_get group (a ∷ aggregates) (x ∷ answers) zero aggregate h at_place =
    let same : a ≡ aggregate = cc in
    subst (λ b. IsAnswer group b x) same h.0
AreAnswers-slice_get group (a ∷ aggregates) (x ∷ answers) (suc place) aggregate h at_place =
    AreAnswers-slice_get group aggregates answers place aggregate h.1 at_place

-- the answers of a row of the cube
pub AreRows-answer_at : (s : Layout) (facts : List Fact) (rows : List Row) → AreCountedRows s facts rows → (row : Row) →
    Contains rows row → (place : ℕ) (aggregate : Agg) → slice_get s.aggregates place ≡ Some aggregate →
    IsAnswer (group_of row.key facts) aggregate (answer_at place row)
AreRows-answer_at s facts rows are row among place aggregate at_place =
    AreAnswers-slice_get (group_of row.key facts) s.aggregates row.answers place aggregate
    (AllByRecursion-Contains (HasAnswers s.aggregates facts) rows row are.answers among) at_place

-- the counts of the rows of a grouping set add up to the number of facts
pub rows_in_set-count_at : (s : Layout) (facts : List Fact) (rows : List Row) (set place : ℕ) → AreCountedRows s facts rows →
    HaveDimensions (number_of_dimensions s) facts → set < 2 ^ number_of_dimensions s → is_among set s.grouping_sets ≡ true →
    slice_get s.aggregates place ≡ Some agg.CountAll → sum_by (count_at place) (rows_in_set set rows) ≡ length facts
rows_in_set-count_at s facts rows set place are dims below kept at_place =
    sum_by-same (count_at place) (group_size facts) (rows_in_set set rows)
    (Contains-AllByRecursion (λ row. count_at place row ≡ group_size facts row) (rows_in_set set rows) (λ row among.
    let row_of_cube = (Contains-filter (λ (row : Row). mask_of row.key == set) rows row among).0 in
    ap count_answered (AreRows-answer_at s facts rows are row row_of_cube place agg.CountAll at_place)))
    ∙ rows_in_set-group_size s facts rows are set dims below kept

-- ALL stands for each value
all_stand_for-is_all_coord : (coords : List Coord) (values : List (Option (List ℕ)))
    → list_all is_all_coord coords ≡ true →
    length coords ≡ length values → all_stand_for coords values ≡ true
all_stand_for-is_all_coord [] [] all long = refl
all_stand_for-is_all_coord [] (v ∷ values) all long = absurd (omega (arith, long))
all_stand_for-is_all_coord (c ∷ coords) [] all long = absurd (omega (arith, long))
all_stand_for-is_all_coord (coord.All ∷ coords) (v ∷ values) all long =
    all_stand_for-is_all_coord coords values all (omega (arith, long))
all_stand_for-is_all_coord (coord.Null ∷ coords) (v ∷ values) all long = cc
all_stand_for-is_all_coord (coord.Text name ∷ coords) (v ∷ values) all long = cc

-- the group of the grand total is all facts
pub group_of-is_total : (dimensions : ℕ) (facts : List Fact) (key : Key) → HaveDimensions dimensions facts →
    is_total dimensions key ≡ true → group_of key facts ≡ facts
group_of-is_total dimensions facts key dims total =
    let parts = and_parts (length key.coords == dimensions) (list_all is_all_coord key.coords) total in
    let long : length key.coords ≡ dimensions = eqb-true (length key.coords) dimensions parts.0 in
    filter-all (covers key) facts (Contains-AllByRecursion (λ fact. covers key fact ≡ true) facts (λ fact among.
    all_stand_for-is_all_coord key.coords fact.dims parts.1
    (long ∙ sym (HaveDimensions-Contains dimensions facts fact dims among))))

-- the count of the grand total is the number of facts
pub answer_at-is_total : (s : Layout) (facts : List Fact) (rows : List Row) (row : Row) (place : ℕ)
    → AreCountedRows s facts rows →
    HaveDimensions (number_of_dimensions s) facts → Contains rows row → is_total (number_of_dimensions s) row.key ≡ true →
    slice_get s.aggregates place ≡ Some agg.CountAll → answer_at place row ≡ answer.Count (length facts)
answer_at-is_total s facts rows row place are dims among total at_place =
    AreRows-answer_at s facts rows are row among place agg.CountAll at_place
    ∙ ap (λ group. answer.Count (length group)) (group_of-is_total (number_of_dimensions s) facts row.key dims total)

-- a fact that is counted has the dimensions of the cube
counted_by-dims : (number : List ℕ → ℤ) (texts : ℕ) (fact : Fact)
    → length (counted_by number texts fact).dims ≡ length fact.dims - texts
counted_by-dims number zero fact = omega arith
counted_by-dims number (suc texts) fact = length-take-le (length fact.dims - suc texts) fact.dims (omega arith)

pub counted-dims : (s : Layout) (fact : Fact) → length fact.dims ≡ length s.dimensions
    → length (counted s fact).dims ≡ number_of_dimensions s
counted-dims s fact wide =
    counted_by-dims (λ text. pos (text_number text)) (length s.text_places) fact
    ∙ ap (λ n. n - length s.text_places) wide

pub all_counted-HaveDimensions : (s : Layout) (facts : List Fact) → HaveDimensions (length s.dimensions) facts
    → HaveDimensions (number_of_dimensions s) (all_counted s facts)
all_counted-HaveDimensions s [] dims = tt
all_counted-HaveDimensions s (fact ∷ facts) dims = (
  counted-dims s fact dims.0,
  all_counted-HaveDimensions s facts dims.1,
)
