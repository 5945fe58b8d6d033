-- A document that has no fault writes a schema.
use Rattle.std.proofs.Common.{◌≡◌, ℕ, ◌+◌, ◌<◌, ◌≤◌, ◌^◌, pos, zero, suc, Bool, true, false, ◌&&◌, is_some, nat_le}
use Rattle.std.proofs.Common.{◌-◌, drop, length-append, option_map}
use Rattle.std.proofs.Common.{nat_lt, codes, List, [], ◌∷◌, ◌++◌, length, map, find, Option, Some, None, Result, Ok}
use Rattle.std.proofs.Common.{Err, IfOk, IfSome, IfNone, IsUtf8, refl, ap, ◌∙◌, sym, subst, inl, inr, arith}
use Rattle.std.specs.Str.{bytes_eq}
use Rattle.std.specs.List.{list_all, range_with_len, filter_map, flat_map, cons_option}
use Rattle.std.specs.Option.{option_map_or}
use Rattle.std.proofs.lemmas.Slice.Eq.{bytes_eq-Decides}
use Rattle.std.proofs.lemmas.Bool.{and_parts, cases_Bool, false≢true}
use Rattle.std.proofs.lemmas.Bool.Decides.{nat_tests}
use Rattle.std.proofs.Math.Bool.{and-true}
use Rattle.std.proofs.Math.Seq.{drop-append_seam}
use Rattle.std.proofs.lemmas.List.Concat.{flat_map-cons}
use Rattle.std.proofs.lemmas.List.Folds.{list_all-append, list_all-map}
use Rattle.std.proofs.lemmas.Option.{same_Some, cond_some}
use Rattle.toml.specs.Data.{Data, integer, get_member, Members}
use Rattle.cube_core.proofs.GroupingLaws.{grouping-AreKept, kept_sets-all_sets}
use Rattle.cube_core.specs.GroupingSet.{all_sets}
use Rattle.toml.specs.Parse.{parse_document}
use Rattle.cube_core.specs.declared.schema_fault.SchemaFault.{SchemaFault}
use Rattle.cube_core.specs.declared.schema_fault.SchemaFault.TheVariants.{Memory, Toml, UnknownKey, Dimensions}
use Rattle.cube_core.specs.declared.schema_fault.SchemaFault.TheVariants.{Measures, Name, Aggregates, MaxRecords}
use Rattle.cube_core.specs.declared.schema_fault.SchemaFault.TheVariants.{Grouping, Version, Columns, Decimals, Texts}
use Rattle.cube_core.specs.Shard.{IsShard}
use Rattle.cube_core.specs.DecimalsDocument.{decimals_of_value}
use Rattle.cube_core.specs.FeedDocument.{columns_of_value}
use Rattle.cube_core.specs.declared.feed_columns.FeedColumns.{FeedColumns}
use Rattle.cube_core.proofs.DecimalsDocumentLaws.{decimals_of_value-few}
use Rattle.cube_core.proofs.FeedDocumentLaws.{columns_of_value-some_measure, columns_of_value-lawful}
use Rattle.cube_core.specs.declared.shard.Shard.{Shard}
use Rattle.cube_core.specs.Layout.{Layout, IsSchema, spelling_of, is_aggregate_of, is_lawful_name, are_distinct, suits}
use Rattle.cube_core.specs.TextPlaces.{AreTextPlaces, at_places, beside_places}
use Rattle.cube_core.specs.TextsDocument.{columns_with_texts, counted_of_measures, text_places_of_value}
use Rattle.cube_core.proofs.TextPlaceLaws.{All-beside_places, at_places-length, parted-length}
use Rattle.cube_core.proofs.TextSchemaLaws.{are_distinct-IsPermutation, columns_with_texts-lawful}
use Rattle.cube_core.proofs.TextSchemaLaws.{list_all-IsPermutation, names-IsPermutation}
use Rattle.cube_core.proofs.LevelLaws.{is_level-within}
use Rattle.cube_core.specs.SchemaDocument.{is_some_up_to, are_lawful_names, aggregates_over, aggregate_spelled}
use Rattle.cube_core.specs.SchemaDocument.{percentiles_at, percentiles_over, statistics_over}
use Rattle.cube_core.specs.SchemaDocument.{are_spellings, record_limit, max_records_in, default_max_records}
use Rattle.cube_core.specs.SchemaDocument.{sets_of_grouping, feed_version, version_in, dimensions_in, measures_in}
use Rattle.cube_core.specs.SchemaDocument.{text_places_in}
use Rattle.cube_core.specs.SchemaDocument.{is_number_of_measures, least_measures_in}
use Rattle.cube_core.specs.SchemaDocument.{spellings_in, has_known_keys, SchemaParts, parts_in, named_parts}
use Rattle.cube_core.specs.SchemaDocument.{parts_faults, is_fault_of_parts, layout_of_parts, document_faults, has_fault}
use Rattle.cube_core.specs.SchemaDocument.{first_fault, layout_of, AnswersParts, AnswersDocument, AnswersBytes}
use Rattle.cube_core.specs.declared.aggregate.Agg.{Agg}
use Rattle.cube_core.specs.declared.aggregate.Agg.TheVariants.{Count, Sum, Min, Max, Avg, CountDistinct, PercentileDisc}
use Rattle.cube_core.specs.declared.aggregate.Agg.TheVariants.{SumOfSquares, VarPop, VarSamp, Values}

-- what is found passes the test, and has what each element has
find-passes : {X : Type 0} (test : X → Bool) (xs : List X) (x : X) → find test xs ≡ Some x → test x ≡ true
find-passes test [] x is = cc
find-passes test (y ∷ ys) x is =
    elim (cases_Bool (test y)) [
      | inl passes ↦ ap test (sym (same_Some y x (rw passes at is))) ∙ passes
      | inr fails ↦ find-passes test ys x (rw fails at is)
    ]

find-has : {X : Type 0} (test has : X → Bool) (xs : List X) (x : X) → list_all has xs ≡ true → find test xs ≡ Some x
    → has x ≡ true
find-has test has [] x all is = cc
find-has test has (y ∷ ys) x all is =
    let (here, others) = and_parts (has y) (list_all has ys) all in
    elim (cases_Bool (test y)) [
      | inl passes ↦ ap has (sym (same_Some y x (rw passes at is))) ∙ here
      | inr fails ↦ find-has test has ys x others (rw fails at is)
    ]

-- so many numbers from k on are below the number after them
range_with_len-below : (k n after : ℕ) → k + n ≡ after → list_all (λ m. nat_lt m after) (range_with_len k n) ≡ true
range_with_len-below k zero after is = refl
range_with_len-below k (suc n) after is =
    let here : nat_lt k after ≡ true = grind (arith, nat_tests) in
    rw here (range_with_len-below (k + 1) n after (omega arith))

-- the aggregates of one function, and others, are of so many measures
is_aggregate_of-map : (measures : ℕ) (make : ℕ → Agg) (others : List Agg)
    → ((m : ℕ) → is_aggregate_of measures (make m) ≡ nat_lt m measures)
    → list_all (is_aggregate_of measures) others ≡ true
    → list_all (is_aggregate_of measures) (map make (range_with_len 0 measures) ++ others) ≡ true
is_aggregate_of-map measures make others of rest =
    let numbers : list_all (λ m. is_aggregate_of measures (make m)) (range_with_len 0 measures) ≡ true =
    ap (λ test. list_all test (range_with_len 0 measures)) (λ i m. of m i)
    ∙ range_with_len-below 0 measures measures (omega arith) in
    rw (
      list_all-append (is_aggregate_of measures) (map make (range_with_len 0 measures)) others,
      list_all-map (is_aggregate_of measures) make (range_with_len 0 measures),
      numbers,
    ) rest

-- what each list of a range of numbers has, all of them have
list_all-range : (has : Agg → Bool) (make : ℕ → List Agg) (k n : ℕ)
    → ((j : ℕ) → j < k + n → list_all has (make j) ≡ true)
    → list_all has (flat_map make (range_with_len k n)) ≡ true
list_all-range has make k zero each = refl
list_all-range has make k (suc n) each =
    rw (
      flat_map-cons make k (range_with_len (k + 1) n),
      list_all-append has (make k) (flat_map make (range_with_len (k + 1) n)),
      each k (omega arith),
      list_all-range has make (k + 1) n (λ j below. each j (omega (arith, below))),
    ) refl

-- every percentile over so many measures is of them
percentiles_over-of : (measures : ℕ) → list_all (is_aggregate_of measures) (percentiles_over measures) ≡ true
unfolding percentiles_over
percentiles_over-of measures =
    list_all-range (is_aggregate_of measures) (percentiles_at measures) 0 5
    (λ places few. list_all-range (is_aggregate_of measures)
    (λ units. map (λ m. PercentileDisc m units places) (range_with_len 0 measures)) 0 (10 ^ places + 1)
    (λ units most.
    list_all-map (is_aggregate_of measures) (λ m. PercentileDisc m units places) (range_with_len 0 measures)
    ∙ ap (λ test. list_all test (range_with_len 0 measures))
    (λ i m. (ap (λ lawful. nat_lt m measures && lawful) (is_level-within units places few most)
    ∙ and-true (nat_lt m measures)) i)
    ∙ range_with_len-below 0 measures measures (omega arith)))

-- every distinct count, sum of squares, variance, percentile and all values over so many measures are of them
statistics_over-of : (measures : ℕ) → list_all (is_aggregate_of measures) (statistics_over measures) ≡ true
unfolding statistics_over
statistics_over-of measures =
    let over : (ℕ → Agg) → List Agg = λ make. map make (range_with_len 0 measures) in
    let percentiles = percentiles_over measures in
    let values : List Agg = over Values ++ percentiles in
    let samples : List Agg = over VarSamp ++ values in
    let variances : List Agg = over VarPop ++ samples in
    is_aggregate_of-map measures CountDistinct (over SumOfSquares ++ variances) (λ m. refl)
    (is_aggregate_of-map measures SumOfSquares variances (λ m. refl)
    (is_aggregate_of-map measures VarPop samples (λ m. refl)
    (is_aggregate_of-map measures VarSamp values (λ m. refl)
    (is_aggregate_of-map measures Values percentiles (λ m. refl) (percentiles_over-of measures)))))

-- every aggregate over so many measures is of them
aggregates_over-of : (measures : ℕ) → list_all (is_aggregate_of measures) (aggregates_over measures) ≡ true
aggregates_over-of measures =
    let over : (ℕ → Agg) → List Agg = λ make. map make (range_with_len 0 measures) in
    let statistics = statistics_over measures in
    let means : List Agg = over Avg ++ statistics in
    let greatest : List Agg = over Max ++ means in
    let least : List Agg = over Min ++ greatest in
    is_aggregate_of-map measures Count (over Sum ++ least) (λ m. refl)
    (is_aggregate_of-map measures Sum least (λ m. refl)
    (is_aggregate_of-map measures Min greatest (λ m. refl)
    (is_aggregate_of-map measures Max means (λ m. refl)
    (is_aggregate_of-map measures Avg statistics (λ m. refl) (statistics_over-of measures)))))

-- the aggregate that a text spells is of the measures, and the text is its spelling
aggregate_spelled-spelling_of : (measures : List (List ℕ)) (text : List ℕ) (agg : Agg)
    → aggregate_spelled measures text ≡ Some agg
    → (is_aggregate_of (length measures) agg ≡ true) × (text ≡ spelling_of measures agg)
unfolding aggregate_spelled
aggregate_spelled-spelling_of measures text agg is = (
  find-has (λ a. bytes_eq text (spelling_of measures a)) (is_aggregate_of (length measures))
      (aggregates_over (length measures)) agg (aggregates_over-of (length measures)) is,
  (bytes_eq-Decides text (spelling_of measures agg)).0
      (find-passes (λ a. bytes_eq text (spelling_of measures a)) (aggregates_over (length measures)) agg is),
)

-- texts that each spell an aggregate: as many aggregates, of the measures, in their spelling
pub record AreSpelled (measures texts : List (List ℕ)) (aggregates : List Agg) : Type 0 where
  pub as_many : length aggregates ≡ length texts
  pub of_measures : list_all (is_aggregate_of (length measures)) aggregates ≡ true
  pub spelled : texts ≡ map (spelling_of measures) aggregates

AreSpelled-cons : (measures texts : List (List ℕ)) (text : List ℕ) (aggregates : List Agg) (found : Option Agg)
    → aggregate_spelled measures text ≡ found → is_some found ≡ true
    → AreSpelled measures texts aggregates → AreSpelled measures (text ∷ texts) (cons_option found aggregates)
AreSpelled-cons measures texts text aggregates None is some rest = cc
AreSpelled-cons measures texts text aggregates (Some agg) is some rest =
    let (of, spelling) = aggregate_spelled-spelling_of measures text agg is in
    record {
      as_many = ap (λ n. suc n) rest.as_many;
      of_measures = rw of rest.of_measures;
      spelled = rw (← spelling) (ap (λ others. text ∷ others) rest.spelled);
    }

AreSpelled-filter_map : (measures texts : List (List ℕ)) → are_spellings measures texts ≡ true
    → AreSpelled measures texts (filter_map (aggregate_spelled measures) texts)
AreSpelled-filter_map measures [] all = record { as_many = refl; of_measures = refl; spelled = refl }
AreSpelled-filter_map measures (text ∷ texts) all =
    let (here, others) = and_parts (is_some (aggregate_spelled measures text)) (are_spellings measures texts) all in
    AreSpelled-cons measures texts text _ (aggregate_spelled measures text) refl here
    (AreSpelled-filter_map measures texts others)

-- a limit that is read is in its range
record_limit-bounds : (value : Data) (n : ℕ) → record_limit value ≡ Some n → (1 ≤ n) × (n < 2 ^ 32)
record_limit-bounds (integer (pos m)) n is =
    let (inside, same) = cond_some (nat_le 1 m && nat_lt m (2 ^ 32)) m n is in
    let (least, most) = and_parts (nat_le 1 m) (nat_lt m (2 ^ 32)) inside in
    grind (arith, nat_tests)
record_limit-bounds _ n is = cc

max_records_in-at : (value : Option Data) (n : ℕ) → option_map_or record_limit value (Some default_max_records) ≡ Some n
    → (1 ≤ n) × (n < 2 ^ 32)
max_records_in-at None n is = let same : default_max_records ≡ n = same_Some _ _ is in (omega arith, omega arith)
max_records_in-at (Some value) n is = record_limit-bounds value n is

pub max_records_in-bounds : (document : Members) (found : Option ℕ) → found ≡ max_records_in document
    → IfSome found (λ limit. 1 ≤ limit)
max_records_in-bounds document None is = tt
max_records_in-bounds document (Some n) is =
    (max_records_in-at (get_member (codes "max_records") document) n (sym is)).0

-- a number of texts in its bounds
is_some_up_to-length : (most : ℕ) (texts : List (List ℕ)) → is_some_up_to most texts ≡ true
    → (1 ≤ length texts) × (length texts ≤ most)
is_some_up_to-length most texts is =
    let (least, above) = and_parts (nat_le 1 (length texts)) (nat_le (length texts) most) is in
    (grind (arith, nat_tests), grind (arith, nat_tests))

-- a version that is read is 1 or 2
feed_version-bounds : (value : Data) (n : ℕ) → feed_version value ≡ Some n → (1 ≤ n) × (n ≤ 2)
feed_version-bounds (integer (pos m)) n is =
    let (inside, same) = cond_some (nat_le 1 m && nat_le m 2) m n is in
    let (least, most) = and_parts (nat_le 1 m) (nat_le m 2) inside in
    grind (arith, nat_tests)
feed_version-bounds _ n is = cc

version_in-at : (value : Option Data) (n : ℕ) → option_map_or feed_version value (Some 1) ≡ Some n → (1 ≤ n) × (n ≤ 2)
version_in-at None n is = let same : 1 ≡ n = same_Some _ _ is in (omega arith, omega arith)
version_in-at (Some value) n is = feed_version-bounds value n is

pub version_in-bounds : (document : Members) (found : Option ℕ) → found ≡ version_in document
    → IfSome found (λ number. (1 ≤ number) × (number ≤ 2))
version_in-bounds document None is = tt
version_in-bounds document (Some n) is = version_in-at (get_member (codes "version") document) n (sym is)

-- a number of measures in its bounds
is_number_of_measures-length : (least : ℕ) (measures : List (List ℕ)) → is_number_of_measures least measures ≡ true
    → (least ≤ length measures) × (length measures ≤ 4)
is_number_of_measures-length least measures is =
    let (above, below) = and_parts (nat_le least (length measures)) (nat_le (length measures) 4) is in
    (grind (arith, nat_tests), grind (arith, nat_tests))

-- where a document has no table `feed`, there is a measure at least
pub least_measures_in-bound : (document : Members) (least : ℕ) (feed : Option Data)
    → least ≡ least_measures_in document → feed ≡ get_member (codes "feed") document → IfNone feed (1 ≤ least)
least_measures_in-bound document least None is none = rw (is, ← none) (omega arith)
least_measures_in-bound document least (Some feed) is none = tt

-- what becomes of something is something
option_map-None : {A B : Type 0} (f : A → B) (found : Option A) → option_map f found ≡ None → found ≡ None
option_map-None f None none = refl
option_map-None f (Some x) none = cc

-- parts that have none of the faults
pub record AreLawful (dimensions measures texts : List (List ℕ)) (aggregates : List Agg) (least : ℕ) (places : List ℕ)
    : Type 0 where
  pub dimensions_few : is_some_up_to 8 dimensions ≡ true
  pub measures_few : is_number_of_measures least measures ≡ true
  pub names : are_lawful_names (dimensions ++ measures) ≡ true
  pub aggregates_few : is_some_up_to 16 texts ≡ true
  pub aggregates_are : aggregates ≡ filter_map (aggregate_spelled (counted_of_measures places measures)) texts
  pub spelled : are_spellings (counted_of_measures places measures) texts ≡ true
  pub suit : list_all (suits (length (beside_places places 0 measures)))
      (filter_map (aggregate_spelled (counted_of_measures places measures)) texts) ≡ true
  pub places_are : AreTextPlaces (length measures) places

-- such parts make a schema
pub layout_of_parts-IsSchema : (dimensions measures texts : List (List ℕ)) (aggregates : List Agg) (least limit : ℕ)
    (grouping : Option Data) (sets : List ℕ) (version : ℕ) (shard : Shard) (feed : Option Data)
    (columns : Option FeedColumns) (said : Option Data) (decimals : List (Option ℕ)) (places : List ℕ)
    → IsShard shard → AreLawful dimensions measures texts aggregates least places
    → (1 ≤ limit) × (limit < 2 ^ 32) → Some sets ≡ sets_of_grouping dimensions grouping → (1 ≤ version) × (version ≤ 2)
    → IfNone feed (1 ≤ least) → Some columns ≡ columns_of_value dimensions measures feed
    → Some decimals ≡ decimals_of_value measures said
    → IsSchema (record {
      dimensions = dimensions ++ at_places places 0 measures;
      measures = beside_places places 0 measures;
      aggregates = aggregates;
      aggregate_texts = texts;
      max_records = limit;
      grouping_sets = sets;
      version = version;
      shard = shard;
      max_record_bytes = None;
      columns = option_map (columns_with_texts places) columns;
      decimals = beside_places places 0 decimals;
      text_places = places;
    })
layout_of_parts-IsSchema dimensions measures texts aggregates least limit grouping sets version shard feed columns said
    decimals places lawful_shard are range sets_are versions some columns_are decimals_are =
    let at = at_places places 0 measures in
    let beside = beside_places places 0 measures in
    let ds = is_some_up_to-length 8 dimensions are.dimensions_few in
    let ms = is_number_of_measures-length least measures are.measures_few in
    let ts = is_some_up_to-length 16 texts are.aggregates_few in
    let kept = grouping-AreKept dimensions grouping sets (sym sets_are) in
    let (lawful, distinct) =
    and_parts (list_all is_lawful_name (dimensions ++ measures)) (are_distinct (dimensions ++ measures)) are.names in
    let reordered = names-IsPermutation dimensions measures places in
    let all = subst (AreSpelled (beside ++ at) texts) (sym are.aggregates_are)
    (AreSpelled-filter_map (beside ++ at) texts are.spelled) in
    let as_many : length at ≡ length places = at_places-length places measures are.places_are in
    let both : length beside + length at ≡ length measures = parted-length places 0 measures in
    let behind : length (dimensions ++ at) ≡ length dimensions + length places =
    length-append dimensions at ∙ ap (λ n. length dimensions + n) as_many in
    let number : length (dimensions ++ at) - length places ≡ length dimensions = omega (arith, behind) in
    let counted : beside ++ drop (length (dimensions ++ at) - length places) (dimensions ++ at) ≡ beside ++ at =
    ap (λ n. beside ++ drop n (dimensions ++ at)) number ∙ ap (λ xs. beside ++ xs) (drop-append_seam dimensions at) in
    let all_places : length beside + length places ≡ length measures = omega (arith, both, as_many) in
    let numbers : length beside ≡ length measures - length places = omega (arith, both, as_many) in
    record {
      some_dimension = omega (arith, behind, ds.0);
      dimensions_at_most = omega (arith, behind, ds.1);
      some_measure = λ none. omega (
        arith,
        both,
        as_many,
        columns_of_value-some_measure dimensions measures least feed columns some ms.0 columns_are
            (option_map-None (columns_with_texts places) columns none),
      );
      measures_at_most = omega (arith, both, as_many, ms.1);
      some_aggregate = rw all.as_many ts.0;
      aggregates_at_most = omega (arith, all.as_many, ts.1);
      names_are_lawful = list_all-IsPermutation is_lawful_name (dimensions ++ measures) _ reordered lawful;
      names_are_distinct = are_distinct-IsPermutation (dimensions ++ measures) _ reordered distinct;
      aggregates_are_of_measures = rw counted all.of_measures;
      aggregates_suit = rw are.aggregates_are are.suit;
      aggregates_are_spelled = rw counted all.spelled;
      some_record = range.0;
      records_at_most = range.1;
      some_set = kept.some_set;
      sets_are_ascending = kept.ascending;
      sets_are_of_dimensions = rw number kept.of_dimensions;
      version_at_least = versions.0;
      version_at_most = versions.1;
      lawful_shard = lawful_shard;
      lawful_record_bytes = tt;
      lawful_columns = rw (behind, numbers) (columns_with_texts-lawful (length dimensions) (length measures) places
          columns are.places_are (columns_of_value-lawful dimensions measures feed columns columns_are));
      few_digits = All-beside_places (λ digits. IfSome digits (λ k. k ≤ 18)) places 0 decimals
          (decimals_of_value-few measures said decimals decimals_are);
      text_places_are_ascending = are.places_are.ascending;
      text_places_are_of_measures = rw all_places are.places_are.of_measures;
    }

-- what is answered to the parts of a document with known keys alone is answered to the document
document-answered : (document : Members) (answer : Result Layout SchemaFault) → has_known_keys document ≡ true
    → AnswersParts (parts_in document) answer → AnswersDocument document answer
document-answered document (Ok layout) known answers = rw known answers
document-answered document (Err Memory) known answers = tt
document-answered document (Err Toml) known answers = rw known answers
document-answered document (Err UnknownKey) known answers = rw known answers
document-answered document (Err Dimensions) known answers = rw known answers
document-answered document (Err Measures) known answers = rw known answers
document-answered document (Err Name) known answers = rw known answers
document-answered document (Err Aggregates) known answers = rw known answers
document-answered document (Err MaxRecords) known answers = rw known answers
document-answered document (Err Grouping) known answers = rw known answers
document-answered document (Err Version) known answers = rw known answers
document-answered document (Err Columns) known answers = rw known answers
document-answered document (Err Decimals) known answers = rw known answers
document-answered document (Err Texts) known answers = rw known answers

-- the same, of parts that were read one by one
pub document-answered_by : (document : Members) (dimensions measures spellings : List (List ℕ)) (least : ℕ)
    (limit : Option ℕ) (grouping : Option Data) (version : Option ℕ) (feed decimals texts : Option Data)
    (places : Option (List ℕ)) (answer : Result Layout SchemaFault)
    → has_known_keys document ≡ true → dimensions ≡ dimensions_in document → measures ≡ measures_in document
    → least ≡ least_measures_in document → spellings ≡ spellings_in document
    → limit ≡ max_records_in document → grouping ≡ get_member (codes "grouping") document
    → version ≡ version_in document → feed ≡ get_member (codes "feed") document
    → decimals ≡ get_member (codes "decimals") document → texts ≡ get_member (codes "texts") document
    → places ≡ text_places_of_value measures decimals texts
    → AnswersParts (record {
      dimensions = dimensions;
      measures = measures;
      least_measures = least;
      spellings = spellings;
      max_records = limit;
      grouping_sets = sets_of_grouping dimensions grouping;
      version = version;
      columns = columns_of_value dimensions measures feed;
      decimals = decimals_of_value measures decimals;
      text_places = places;
    }) answer
    → AnswersDocument document answer
document-answered_by document dimensions measures spellings least limit grouping version feed decimals texts places
    answer known d m n t l g v f e x p answers =
    let text_places_is : places ≡ text_places_in document =
    p ∙ (λ i. text_places_of_value (m i) (e i) (x i)) in
    document-answered document answer known (subst (λ (parts : SchemaParts). AnswersParts parts answer)
    (λ i. record {
      dimensions = d i;
      measures = m i;
      least_measures = n i;
      spellings = t i;
      max_records = l i;
      grouping_sets = sets_of_grouping (d i) (g i);
      version = v i;
      columns = columns_of_value (d i) (m i) (f i);
      decimals = decimals_of_value (m i) (e i);
      text_places = text_places_is i;
    }) answers)

-- what is answered to names, where nothing else is said, is answered to their parts
pub named_parts-answered : (dimensions measures spellings ds ms ts : List (List ℕ)) (places : List ℕ)
    (answer : Result Layout SchemaFault) → ds ≡ dimensions → ms ≡ measures → ts ≡ spellings → places ≡ []
    → AnswersParts (record {
      dimensions = ds;
      measures = ms;
      least_measures = 1;
      spellings = ts;
      max_records = Some default_max_records;
      grouping_sets = sets_of_grouping ds None;
      version = Some 1;
      columns = Some None;
      decimals = Some [];
      text_places = Some places;
    }) answer
    → AnswersParts (named_parts dimensions measures spellings) answer
named_parts-answered dimensions measures spellings ds ms ts places answer d m t p answers =
    let sets : sets_of_grouping ds None ≡ Some (all_sets (length dimensions)) =
    ap (λ names. sets_of_grouping names None) d ∙ ap Some (kept_sets-all_sets (length dimensions)) in
    subst (λ (parts : SchemaParts). AnswersParts parts answer)
    (λ i. record {
      dimensions = d i;
      measures = m i;
      least_measures = 1;
      spellings = t i;
      max_records = Some default_max_records;
      grouping_sets = sets i;
      version = Some 1;
      columns = Some None;
      decimals = Some [];
      text_places = Some (p i);
    }) answers

-- a schema that is answered to parts is theirs
option_map_or-Ok : (found : Option SchemaFault) (layout s : Layout) → Ok s ≡ option_map_or Err found (Ok layout)
    → s ≡ layout
option_map_or-Ok None layout s is = cc
option_map_or-Ok (Some fault) layout s is = cc

AnswersParts-Ok : (parts : SchemaParts) (answer : Result Layout SchemaFault) → AnswersParts parts answer
    → IfOk answer (λ layout. layout ≡ layout_of_parts parts)
AnswersParts-Ok parts (Ok layout) answers =
    option_map_or-Ok (find (is_fault_of_parts parts) parts_faults) (layout_of_parts parts) layout answers
AnswersParts-Ok parts (Err fault) answers = tt

pub named_parts-layout : (dimensions measures spellings ds ms ts : List (List ℕ)) (places : List ℕ)
    (answer : Result Layout SchemaFault) → ds ≡ dimensions → ms ≡ measures → ts ≡ spellings → places ≡ []
    → AnswersParts (record {
      dimensions = ds;
      measures = ms;
      least_measures = 1;
      spellings = ts;
      max_records = Some default_max_records;
      grouping_sets = sets_of_grouping ds None;
      version = Some 1;
      columns = Some None;
      decimals = Some [];
      text_places = Some places;
    }) answer
    → IfOk answer (λ layout. layout ≡ layout_of_parts (named_parts dimensions measures spellings))
named_parts-layout dimensions measures spellings ds ms ts places answer d m t p answers =
    AnswersParts-Ok (named_parts dimensions measures spellings) answer
    (named_parts-answered dimensions measures spellings ds ms ts places answer d m t p answers)

-- no document is answered that it is none
first_fault-Toml : (document : Members) (found : Option SchemaFault) → first_fault document ≡ found
    → Err Toml ≡ option_map_or Err found (Ok (layout_of document)) → false ≡ true
first_fault-Toml document None is same = cc
first_fault-Toml document (Some fault) is same =
    let fault_is : fault ≡ Toml = cc in
    find-passes (has_fault document) document_faults Toml (is ∙ ap Some fault_is)

-- what is answered to the document of bytes is answered to the bytes
pub bytes-answered : (bytes : List ℕ) (document : Members) (answer : Result Layout SchemaFault) → IsUtf8 bytes
    → parse_document bytes ≡ Some document → AnswersDocument document answer → AnswersBytes bytes answer
bytes-answered bytes document (Ok layout) utf8 parsed answers = (utf8, document, parsed, answers)
bytes-answered bytes document (Err Memory) utf8 parsed answers = tt
bytes-answered bytes document (Err Toml) utf8 parsed answers =
    absurd (false≢true (first_fault-Toml document (first_fault document) refl answers))
bytes-answered bytes document (Err UnknownKey) utf8 parsed answers = (utf8, document, parsed, answers)
bytes-answered bytes document (Err Dimensions) utf8 parsed answers = (utf8, document, parsed, answers)
bytes-answered bytes document (Err Measures) utf8 parsed answers = (utf8, document, parsed, answers)
bytes-answered bytes document (Err Name) utf8 parsed answers = (utf8, document, parsed, answers)
bytes-answered bytes document (Err Aggregates) utf8 parsed answers = (utf8, document, parsed, answers)
bytes-answered bytes document (Err MaxRecords) utf8 parsed answers = (utf8, document, parsed, answers)
bytes-answered bytes document (Err Grouping) utf8 parsed answers = (utf8, document, parsed, answers)
bytes-answered bytes document (Err Version) utf8 parsed answers = (utf8, document, parsed, answers)
bytes-answered bytes document (Err Columns) utf8 parsed answers = (utf8, document, parsed, answers)
bytes-answered bytes document (Err Decimals) utf8 parsed answers = (utf8, document, parsed, answers)
bytes-answered bytes document (Err Texts) utf8 parsed answers = (utf8, document, parsed, answers)
