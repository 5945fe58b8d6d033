-- A document that writes a schema is read as that schema.
use Rattle.std.proofs.Common.{◌≡◌, ℕ, ◌≤◌, Bool, true, false, List, [], ◌∷◌, length, map, find, unwrap_or, None, Ok}
use Rattle.std.proofs.Common.{Err, refl, sym, ap, ap₂, ◌∙◌, arith, codes, is_some, Option, Some, ◌++◌, ◌+◌, IsPermutation, option_map, subst, ◌&&◌, if◌then◌else◌}
use Rattle.std.proofs.lemmas.List.{length-drop, length-map, length-take-le, take-append-drop}
use Rattle.std.proofs.lemmas.List.Sorted.{IsPermutation-sym}
use Rattle.std.specs.List.{list_all, filter_map}
use Rattle.std.specs.Option.{option_map_or}
use Rattle.std.proofs.lemmas.Bool.{and_from, and_parts, le-leb, not_from_true}
use Rattle.std.proofs.lemmas.Option.{same_Some}
use Rattle.toml.specs.Data.{Data, Members, get_member}
use Rattle.cube_core.specs.FeedDocument.{columns_of_value}
use Rattle.cube_core.specs.Layout.{Layout, IsSchema, counted_names, counted_texts, cube_dimensions}
use Rattle.cube_core.specs.Layout.{cube_schema, cube_schema_with, is_aggregate_of, is_lawful_name, number_of_dimensions, spelling_of}
use Rattle.cube_core.specs.Layout.{suits}
use Rattle.cube_core.specs.TextPlaces.{at_places, beside_places}
use Rattle.cube_core.specs.TextsDocument.{columns_with_texts}
use Rattle.cube_core.specs.SchemaDocument.{is_some_up_to, aggregate_spelled, are_spellings, dimensions_in, measures_in}
use Rattle.cube_core.specs.SchemaDocument.{spellings_in, max_records_in, default_max_records, grouping_sets_in}
use Rattle.cube_core.specs.SchemaDocument.{least_measures_in, text_places_in, texts_at}
use Rattle.cube_core.specs.SchemaDocument.{aggregates_in, all_suit, counted_in, parts_in}
use Rattle.cube_core.specs.SchemaDocument.{version_in, document_faults, has_fault, first_fault, layout_of, schema_of}
use Rattle.cube_core.specs.Shard.{whole_feed}
use Rattle.cube_core.proofs.TextPlaceLaws.{parted-length}
use Rattle.cube_core.proofs.CubeSchemaLaws.{IsSchema-cube_schema}
use Rattle.cube_core.proofs.TextSchemaLaws.{are_distinct-IsPermutation, counted_names-none, list_all-IsPermutation, names-IsPermutation}
use Rattle.cube_laws.specs.Written.{WritesSchema, are_told_apart, is_told_apart}
use Rattle.cube_core.specs.declared.aggregate.Agg.{Agg}
use Rattle.cube_core.specs.declared.schema_fault.SchemaFault.{SchemaFault}
use Rattle.cube_core.specs.declared.schema_fault.SchemaFault.TheVariants.{UnknownKey, Dimensions, Measures, Name}
use Rattle.cube_core.specs.declared.schema_fault.SchemaFault.TheVariants.{Aggregates, MaxRecords, Grouping, Version}
use Rattle.cube_core.specs.declared.schema_fault.SchemaFault.TheVariants.{Columns, Decimals, Texts}
use Rattle.cube_laws.proofs.SpellingLaws.{aggregate_spelled-IsSchema}

-- the schema of a cube has the names of what its aggregates are of
measures-cube_schema : (s : Layout) → (cube_schema s).measures ≡ counted_names s
measures-cube_schema s = of s.text_places refl
  where
    of : (places : List ℕ) → s.text_places ≡ places → (cube_schema_with places s).measures ≡ counted_names s
    of [] none = sym (counted_names-none s none)
    of (place ∷ places) some = refl

pub aggregate_spelled-counted : (s : Layout) (agg : Agg) → IsSchema s
    → is_aggregate_of (length (counted_names s)) agg ≡ true → is_told_apart (counted_names s) agg ≡ true
    → aggregate_spelled (counted_names s) (spelling_of (counted_names s) agg) ≡ Some agg
aggregate_spelled-counted s agg is =
    subst (λ names. is_aggregate_of (length names) agg ≡ true → is_told_apart names agg ≡ true
    → aggregate_spelled names (spelling_of names agg) ≡ Some agg) (measures-cube_schema s)
    (aggregate_spelled-IsSchema (cube_schema s) agg (IsSchema-cube_schema s is))

-- the spellings of aggregates are read as these aggregates
filter_map-spelling_of : (s : Layout) → IsSchema s → (aggregates : List Agg)
    → list_all (is_aggregate_of (length (counted_names s))) aggregates ≡ true
    → list_all (is_told_apart (counted_names s)) aggregates ≡ true
    → filter_map (aggregate_spelled (counted_names s)) (map (spelling_of (counted_names s)) aggregates) ≡ aggregates
filter_map-spelling_of s is [] of apart = refl
filter_map-spelling_of s is (agg ∷ aggregates) of apart =
    let (here, others) = and_parts (is_aggregate_of (length (counted_names s)) agg)
    (list_all (is_aggregate_of (length (counted_names s))) aggregates) of in
    let (one, more) = and_parts (is_told_apart (counted_names s) agg) (list_all (is_told_apart (counted_names s)) aggregates) apart in
    rw (aggregate_spelled-counted s agg is here one)
    (ap (λ rest. agg ∷ rest) (filter_map-spelling_of s is aggregates others more))

are_spellings-spelling_of : (s : Layout) → IsSchema s → (aggregates : List Agg)
    → list_all (is_aggregate_of (length (counted_names s))) aggregates ≡ true
    → list_all (is_told_apart (counted_names s)) aggregates ≡ true
    → are_spellings (counted_names s) (map (spelling_of (counted_names s)) aggregates) ≡ true
are_spellings-spelling_of s is [] of apart = refl
are_spellings-spelling_of s is (agg ∷ aggregates) of apart =
    let (here, others) = and_parts (is_aggregate_of (length (counted_names s)) agg)
    (list_all (is_aggregate_of (length (counted_names s))) aggregates) of in
    let (one, more) = and_parts (is_told_apart (counted_names s) agg) (list_all (is_told_apart (counted_names s)) aggregates) apart in
    rw (aggregate_spelled-counted s agg is here one) (are_spellings-spelling_of s is aggregates others more)

-- a number of texts in its bounds
is_some_up_to-length : (most : ℕ) (texts : List (List ℕ)) → 1 ≤ length texts → length texts ≤ most
    → is_some_up_to most texts ≡ true
is_some_up_to-length most texts least greatest = rw (le-leb 1 (length texts) least, le-leb (length texts) most greatest)

-- no fault, where none of them holds
find-document_faults : (holds : SchemaFault → Bool) → holds UnknownKey ≡ false → holds Dimensions ≡ false
    → holds Measures ≡ false → holds Name ≡ false → holds Aggregates ≡ false → holds MaxRecords ≡ false
    → holds Grouping ≡ false → holds Version ≡ false → holds Columns ≡ false → holds Decimals ≡ false
    → holds Texts ≡ false → find holds document_faults ≡ None
find-document_faults holds a b c d e f g h k l m = rw (a, b, c, d, e, f, g, h, k, l, m)

-- the measures of a document are those of the schema and its texts that are counted
measures-WritesSchema : (document : Members) (s : Layout) → IsSchema s → (writes : WritesSchema document s)
    → length writes.all_measures ≡ length s.measures + length s.text_places
measures-WritesSchema document s is writes =
    let all = writes.all_measures in
    omega (
      arith,
      parted-length s.text_places 0 all,
      ap length writes.numbers,
      ap length writes.texts,
      length-drop (number_of_dimensions s) s.dimensions,
      is.some_dimension,
    )

-- a document has as many measures as it has to have
least_measures-WritesSchema : (document : Members) (s : Layout) → IsSchema s → (writes : WritesSchema document s)
    → least_measures_in document ≤ length writes.all_measures
least_measures-WritesSchema document s is writes = at (get_member (codes "feed") document) refl
  where
    least : Option Data → Bool → ℕ
    least feed there = if is_some feed && there then 0 else 1

    there : is_some (texts_at (codes "measures") document) ≡ true
    there = ap is_some writes.measures

    at : (feed : Option Data) → get_member (codes "feed") document ≡ feed
        → least_measures_in document ≤ length writes.all_measures
    at None none =
        let said : None ≡ writes.all_columns = same_Some None writes.all_columns
        (sym (ap (columns_of_value (dimensions_in document) (measures_in document)) none) ∙ writes.columns) in
        let no_columns : s.columns ≡ None =
        sym writes.columns_are ∙ ap (option_map (columns_with_texts s.text_places)) (sym said) in
        let one : least_measures_in document ≡ 1 =
        ap (λ feed. least feed (is_some (texts_at (codes "measures") document))) none in
        omega (arith, one, is.some_measure no_columns, measures-WritesSchema document s is writes)
    at (Some feed) some =
        let zero : least_measures_in document ≡ 0 =
        ap₂ (λ found is_there. least found is_there) some there in
        omega (arith, zero)

pub WritesSchema-schema_of : (document : Members) (s : Layout) → IsSchema s → s.shard ≡ whole_feed
    → s.max_record_bytes ≡ None → length s.aggregates ≤ 16 → are_told_apart s ≡ true
    → WritesSchema document s → schema_of document ≡ Ok s
WritesSchema-schema_of document s is whole unbounded few apart writes =
    let all = writes.all_measures in
    let dimensions : dimensions_in document ≡ cube_dimensions s = ap (λ o. unwrap_or o []) writes.dimensions in
    let measures : measures_in document ≡ all = ap (λ o. unwrap_or o []) writes.measures in
    let texts : spellings_in document ≡ s.aggregate_texts = ap (λ o. unwrap_or o []) writes.aggregates in
    let limit : unwrap_or (max_records_in document) default_max_records ≡ s.max_records =
    ap (λ o. unwrap_or o default_max_records) writes.max_records in
    let sets : unwrap_or (grouping_sets_in document) [] ≡ s.grouping_sets =
    ap (λ o. unwrap_or o []) writes.grouping_sets in
    let version : unwrap_or (version_in document) 1 ≡ s.version = ap (λ o. unwrap_or o 1) writes.version in
    let places : unwrap_or (text_places_in document) [] ≡ s.text_places =
    ap (λ o. unwrap_or o []) writes.text_places in
    let behind : at_places (unwrap_or (text_places_in document) []) 0 (measures_in document) ≡ counted_texts s
    = ap₂ (λ found names. at_places found 0 names) places measures ∙ writes.texts in
    let all_dimensions : (layout_of document).dimensions ≡ s.dimensions =
    ap₂ (λ front back. front ++ back) dimensions behind ∙ take-append-drop (number_of_dimensions s) s.dimensions in
    let numbers : (layout_of document).measures ≡ s.measures =
    ap₂ (λ found names. beside_places found 0 names) places measures ∙ writes.numbers in
    let columns : (layout_of document).columns ≡ s.columns =
    ap₂ (λ found said. option_map (columns_with_texts found) (unwrap_or said None)) places writes.columns
    ∙ writes.columns_are in
    let decimals : (layout_of document).decimals ≡ s.decimals =
    ap₂ (λ found said. beside_places found 0 (unwrap_or said [])) places writes.decimals ∙ writes.decimals_are in
    let names : counted_in (parts_in document) ≡ counted_names s = ap₂ (λ front back. front ++ back) numbers behind in
    let spelled : spellings_in document ≡ map (spelling_of (counted_names s)) s.aggregates =
    texts ∙ is.aggregates_are_spelled in
    let as_many : length s.aggregate_texts ≡ length s.aggregates =
    ap length is.aggregates_are_spelled ∙ length-map s.aggregates (spelling_of (counted_names s)) in
    let all_spelled : are_spellings (counted_in (parts_in document)) (spellings_in document) ≡ true =
    ap₂ are_spellings names spelled
    ∙ are_spellings-spelling_of s is s.aggregates is.aggregates_are_of_measures apart in
    let aggregates : aggregates_in (parts_in document) ≡ s.aggregates =
    ap₂ (λ names texts. filter_map (aggregate_spelled names) texts) names spelled
    ∙ filter_map-spelling_of s is s.aggregates is.aggregates_are_of_measures apart in
    let suit : all_suit (parts_in document) ≡ true =
    ap₂ (λ ms aggs. list_all (suits (length ms)) aggs) numbers aggregates ∙ is.aggregates_suit in
    let in_bounds : is_some_up_to 16 (spellings_in document) ≡ true =
    ap (is_some_up_to 16) texts
    ∙ is_some_up_to-length 16 s.aggregate_texts (rw as_many is.some_aggregate) (rw as_many few) in
    let wide : length (cube_dimensions s) ≡ number_of_dimensions s =
    length-take-le (number_of_dimensions s) s.dimensions (omega arith) in
    let as_many_measures = measures-WritesSchema document s is writes in
    let reordered : IsPermutation (s.dimensions ++ s.measures) (dimensions_in document ++ measures_in document) =
    IsPermutation-sym _ _ (subst (IsPermutation (dimensions_in document ++ measures_in document))
    (ap₂ (λ front back. front ++ back) all_dimensions numbers)
    (names-IsPermutation (dimensions_in document) (measures_in document) (unwrap_or (text_places_in document) []))) in
    let no_fault : first_fault document ≡ None =
    find-document_faults (has_fault document)
    (not_from_true _ writes.known_keys)
    (not_from_true _ (ap (is_some_up_to 8) dimensions ∙ is_some_up_to-length 8 (cube_dimensions s)
    (omega (arith, wide, is.some_dimension)) (omega (arith, wide, is.dimensions_at_most))))
    (not_from_true _ (and_from _ _
    (le-leb (least_measures_in document) (length (measures_in document))
    (rw measures (least_measures-WritesSchema document s is writes)))
    (le-leb (length (measures_in document)) 4
    (omega (arith, ap length measures, as_many_measures, is.measures_at_most)))))
    (not_from_true _ (and_from _ _ (list_all-IsPermutation is_lawful_name _ _ reordered is.names_are_lawful)
    (are_distinct-IsPermutation _ _ reordered is.names_are_distinct)))
    (not_from_true _ (λ i. in_bounds i && all_spelled i && suit i))
    (not_from_true _ (rw writes.max_records))
    (not_from_true _ (rw writes.grouping_sets))
    (not_from_true _ (rw writes.version))
    (not_from_true _ (rw writes.columns))
    (not_from_true _ (rw writes.decimals))
    (not_from_true _ (rw writes.text_places)) in
    let layout : layout_of document ≡ s = λ i. record {
      dimensions = all_dimensions i;
      measures = numbers i;
      aggregates = aggregates i;
      aggregate_texts = texts i;
      max_records = limit i;
      grouping_sets = sets i;
      version = version i;
      shard = sym whole i;
      max_record_bytes = sym unbounded i;
      columns = columns i;
      decimals = decimals i;
      text_places = places i;
    } in
    ap (λ fault. option_map_or Err fault (Ok (layout_of document))) no_fault ∙ ap Ok layout
