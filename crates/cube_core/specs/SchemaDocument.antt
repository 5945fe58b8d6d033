-- The schema that a TOML document writes, or that its parts make, and the faults of those that make none (TOML 1.1;
-- the keys, the limits and the order of the faults are this project's choice).
use Rattle.std.specs.Prelude.{◌≡◌, ◌&&◌, ◌+◌, ◌*◌, ◌^◌, ℕ, pos, Bool, false, true, not, nat_lt, nat_le, is_some}
use Rattle.std.specs.Prelude.{if◌then◌else◌, List, [], ◌∷◌, ◌++◌, length, map, take, filter, find, codes, Option, Some}
use Rattle.std.specs.Prelude.{None, option_and_then, option_map, unwrap_or, Result, Ok, Err, IsUtf8, ⊤}
use Rattle.std.specs.Str.{bytes_eq}
use Rattle.std.specs.Option.{option_map_or}
use Rattle.std.specs.List.{list_all, filter_map, flat_map, range_with_len}
use Rattle.toml.specs.Data.{Data, string, integer, array, as_array, Items, no_items, item, Members}
use Rattle.toml.specs.Data.{get_member}
use Rattle.toml.specs.Parse.{parse_document}
use Rattle.cube_core.specs.Shard.{whole_feed}
use Rattle.cube_core.specs.Layout.{Layout, is_listed, are_distinct, is_lawful_name, spelling_of, suits}
use Rattle.cube_core.specs.TextPlaces.{at_places, beside_places}
use Rattle.cube_core.specs.TextsDocument.{columns_with_texts, counted_of_measures, text_places_of_value}
use Rattle.cube_core.specs.DecimalsDocument.{decimals_of_value}
use Rattle.cube_core.specs.FeedDocument.{texts_of, has_only, columns_of_value}
use Rattle.cube_core.specs.GroupingSet.{all_sets, is_among}
use Rattle.cube_core.specs.declared.aggregate.Agg.{Agg}
use Rattle.cube_core.specs.declared.aggregate.Agg.TheVariants.{CountAll, Count, Sum, Min, Max, Avg}
use Rattle.cube_core.specs.declared.aggregate.Agg.TheVariants.{CountDistinct, PercentileDisc, SumOfSquares, VarPop, VarSamp, Values}
use Rattle.cube_core.specs.declared.feed_columns.FeedColumns.{FeedColumns}
use Rattle.cube_core.specs.declared.schema_fault.SchemaFault.{SchemaFault}
use Rattle.cube_core.specs.declared.schema_fault.SchemaFault.TheVariants.{Memory, Toml, UnknownKey, Dimensions}
use Rattle.cube_core.specs.declared.schema_fault.SchemaFault.TheVariants.{Measures, Name, Aggregates, MaxRecords}
use Rattle.cube_core.specs.declared.schema_fault.SchemaFault.TheVariants.{Grouping, Version, Columns, Decimals, Texts}

-- the keys that a document may have
abbrev pub known_keys : List (List ℕ)
known_keys = codes "dimensions" ∷ codes "measures" ∷ codes "aggregates" ∷ codes "max_records" ∷ codes "grouping"
    ∷ codes "version" ∷ codes "feed" ∷ codes "decimals" ∷ codes "texts" ∷ []

-- whether a document has no other key
abbrev pub has_known_keys : Members → Bool
has_known_keys document = has_only known_keys document

-- the texts at a key, where the document has an array of texts there
abbrev pub texts_at : List ℕ → Members → Option (List (List ℕ))
texts_at key document = option_and_then texts_of (option_and_then as_array (get_member key document))

-- the texts at a key; none where the document has no array of texts there
abbrev pub texts_in : List ℕ → Members → List (List ℕ)
texts_in key document = unwrap_or (texts_at key document) []

-- the dimensions, the measures and the spellings of the aggregates that the document gives
abbrev pub dimensions_in : Members → List (List ℕ)
dimensions_in document = texts_in (codes "dimensions") document

abbrev pub measures_in : Members → List (List ℕ)
measures_in document = texts_in (codes "measures") document

abbrev pub spellings_in : Members → List (List ℕ)
spellings_in document = texts_in (codes "aggregates") document

-- whether there are at least one text and at most so many
abbrev pub is_some_up_to : ℕ → List (List ℕ) → Bool
is_some_up_to most texts = nat_le 1 (length texts) && nat_le (length texts) most

-- whether there are at least so many measures and at most 4
abbrev pub is_number_of_measures : ℕ → List (List ℕ) → Bool
is_number_of_measures least measures = nat_le least (length measures) && nat_le (length measures) 4

-- whether names may stand together: each is lawful, and none stands twice
abbrev pub are_lawful_names : List (List ℕ) → Bool
are_lawful_names names = list_all is_lawful_name names && are_distinct names

-- every percentile of so many measures at levels of so many places, and at all levels
abbrev pub percentiles_at : ℕ → ℕ → List Agg
percentiles_at measures places =
    flat_map (λ units. map (λ m. PercentileDisc m units places) (range_with_len 0 measures))
    (range_with_len 0 (10 ^ places + 1))

unfoldable pub percentiles_over : ℕ → List Agg
percentiles_over measures = flat_map (percentiles_at measures) (range_with_len 0 5)

-- every distinct count, sum of squares, variance, percentile and all values of so many measures
unfoldable pub statistics_over : ℕ → List Agg
statistics_over measures =
    map CountDistinct (range_with_len 0 measures)
    ++ (map SumOfSquares (range_with_len 0 measures)
    ++ (map VarPop (range_with_len 0 measures)
    ++ (map VarSamp (range_with_len 0 measures)
    ++ (map Values (range_with_len 0 measures)
    ++ percentiles_over measures))))

-- every aggregate of so many measures; where a measure is named so that a text spells two of them, the first is meant
abbrev pub aggregates_over : ℕ → List Agg
aggregates_over measures =
    CountAll ∷ (map Count (range_with_len 0 measures)
    ++ (map Sum (range_with_len 0 measures)
    ++ (map Min (range_with_len 0 measures)
    ++ (map Max (range_with_len 0 measures)
    ++ (map Avg (range_with_len 0 measures)
    ++ statistics_over measures)))))

-- of these measures the distinct count, the sum of squares, the variance, the values or the percentile that is spelled so
unfoldable pub statistic_spelled : List (List ℕ) → List ℕ → Option Agg
statistic_spelled measures text =
    find (λ agg. bytes_eq text (spelling_of measures agg)) (statistics_over (length measures))

-- the aggregate of these measures that is spelled so
unfoldable pub aggregate_spelled : List (List ℕ) → List ℕ → Option Agg
aggregate_spelled measures text =
    find (λ agg. bytes_eq text (spelling_of measures agg)) (aggregates_over (length measures))

-- whether each text spells an aggregate of these measures
abbrev pub are_spellings : List (List ℕ) → List (List ℕ) → Bool
are_spellings measures texts = list_all (λ text. is_some (aggregate_spelled measures text)) texts

-- how many data records a feed may have where the document doesn't say
abbrev pub default_max_records : ℕ
default_max_records = 4294967295

-- how many data records a value allows: it is a whole number from 1 to 4294967295
abbrev pub record_limit : Data → Option ℕ
record_limit (integer (pos n)) = if nat_le 1 n && nat_lt n (2 ^ 32) then Some n else None
record_limit _ = None

-- how many data records the document allows, where what it says of them is right
abbrev pub max_records_in : Members → Option ℕ
max_records_in document =
    option_map_or record_limit (get_member (codes "max_records") document) (Some default_max_records)

-- whether names are a set of dimensions: each is one of them, and none stands twice
abbrev pub is_set_of : List (List ℕ) → List (List ℕ) → Bool
is_set_of dimensions names = list_all (λ name. is_listed name dimensions) names && are_distinct names

-- the mask of the set that has the dimensions of these names: the sum of 2 to the power d over their places d, from 0
abbrev pub mask_of_names : List (List ℕ) → List (List ℕ) → ℕ
mask_of_names [] names = 0
mask_of_names (dimension ∷ dimensions) names =
    (if is_listed dimension names then 1 else 0) + 2 * mask_of_names dimensions names

-- the set that names write, where they are one of dimensions
abbrev pub set_of_names : List (List ℕ) → List (List ℕ) → Option ℕ
set_of_names dimensions names = if is_set_of dimensions names then Some (mask_of_names dimensions names) else None

-- the set that an item of an array writes, where it is an array of the names of one
abbrev pub set_of_item : List (List ℕ) → Data → Option ℕ
set_of_item dimensions value = option_and_then (set_of_names dimensions) (option_and_then texts_of (as_array value))

-- the sets that an array writes, where each of its items writes one
abbrev pub sets_of_items : List (List ℕ) → Items → Option (List ℕ)
sets_of_items dimensions no_items = Some []
sets_of_items dimensions (item value others) =
    option_and_then (λ set. option_map (λ sets. set ∷ sets) (sets_of_items dimensions others))
    (set_of_item dimensions value)

-- whether no set stands twice in a list
abbrev pub are_distinct_sets : List ℕ → Bool
are_distinct_sets [] = true
are_distinct_sets (set ∷ sets) = not (is_among set sets) && are_distinct_sets sets

-- whether sets may stand together: there is one, and none stands twice
abbrev pub are_lawful_sets : List ℕ → Bool
are_lawful_sets sets = nat_le 1 (length sets) && are_distinct_sets sets

-- the sets of ROLLUP: for each number of dimensions that of so many first ones (SQL:1999)
abbrev pub rollup_sets : List (List ℕ) → List ℕ
rollup_sets dimensions =
    map (λ first. mask_of_names dimensions (take first dimensions)) (range_with_len 0 (length dimensions + 1))

-- the sets that a text names
abbrev pub sets_of_word : List (List ℕ) → List ℕ → Option (List ℕ)
sets_of_word dimensions text =
    if bytes_eq text (codes "cube") then Some (all_sets (length dimensions))
    else if bytes_eq text (codes "rollup") then Some (rollup_sets dimensions)
    else None

-- the sets that a grouping names, by a word or one by one, where it's right; all where there is none
abbrev pub named_sets : List (List ℕ) → Option Data → Option (List ℕ)
named_sets dimensions None = Some (all_sets (length dimensions))
named_sets dimensions (Some (string text)) = sets_of_word dimensions text
named_sets dimensions (Some (array items)) =
    option_and_then (λ sets. if are_lawful_sets sets then Some sets else None) (sets_of_items dimensions items)
named_sets dimensions (Some _) = None

-- of all grouping sets of so many dimensions those that are named
abbrev pub kept_sets : ℕ → List ℕ → List ℕ
kept_sets dimensions named = filter (λ set. is_among set named) (all_sets dimensions)

-- the grouping sets that a grouping keeps, where it's right
abbrev pub sets_of_grouping : List (List ℕ) → Option Data → Option (List ℕ)
sets_of_grouping dimensions grouping = option_map (kept_sets (length dimensions)) (named_sets dimensions grouping)

-- the grouping sets that the document keeps, where what it says of them is right
abbrev pub grouping_sets_in : Members → Option (List ℕ)
grouping_sets_in document = sets_of_grouping (dimensions_in document) (get_member (codes "grouping") document)

-- the version of a feed that a value names: it is 1 or 2
abbrev pub feed_version : Data → Option ℕ
feed_version (integer (pos n)) = if nat_le 1 n && nat_le n 2 then Some n else None
feed_version _ = None

-- the version that the document names, where what it says of it is right; 1 where it says nothing
abbrev pub version_in : Members → Option ℕ
version_in document = option_map_or feed_version (get_member (codes "version") document) (Some 1)

-- the columns by name that the document says, where what it says of them is right; none where it says nothing
abbrev pub columns_in : Members → Option (Option FeedColumns)
columns_in document =
    columns_of_value (dimensions_in document) (measures_in document) (get_member (codes "feed") document)

-- the digits behind a point that the document says, where what it says of them is right
abbrev pub decimals_in : Members → Option (List (Option ℕ))
decimals_in document = decimals_of_value (measures_in document) (get_member (codes "decimals") document)

-- the places of the measures that are texts, where what the document says of them is right
abbrev pub text_places_in : Members → Option (List ℕ)
text_places_in document = text_places_of_value (measures_in document) (get_member (codes "decimals") document)
    (get_member (codes "texts") document)

-- the least number of measures: none under columns by name, where the document has an array of texts for them
abbrev pub least_measures_in : Members → ℕ
least_measures_in document =
    if is_some (get_member (codes "feed") document) && is_some (texts_at (codes "measures") document) then 0 else 1

-- what a schema is made of, as a document or a caller gives it: the names, the least number of measures,
-- the spellings of the aggregates, and how many data records a feed may have, the grouping sets that are kept,
-- the version of the feeds, their columns by name, the digits of measures behind a point, and the places of those measures
-- that are texts, each of the last six where what is said of it is right
pub record SchemaParts : Type 0 where
  pub dimensions : List (List ℕ)
  pub measures : List (List ℕ)
  pub least_measures : ℕ
  pub spellings : List (List ℕ)
  pub max_records : Option ℕ
  pub grouping_sets : Option (List ℕ)
  pub version : Option ℕ
  pub columns : Option (Option FeedColumns)
  pub decimals : Option (List (Option ℕ))
  pub text_places : Option (List ℕ)

-- the parts that a document gives
abbrev pub parts_in : Members → SchemaParts
parts_in document = record {
  dimensions = dimensions_in document;
  measures = measures_in document;
  least_measures = least_measures_in document;
  spellings = spellings_in document;
  max_records = max_records_in document;
  grouping_sets = grouping_sets_in document;
  version = version_in document;
  columns = columns_in document;
  decimals = decimals_in document;
  text_places = text_places_in document;
}

-- the parts of a schema of which no more is said than its names and the spellings of its aggregates:
-- the most data records, all grouping sets, version 1, columns in the order of the schema, and no digits behind a point
abbrev pub named_parts : List (List ℕ) → List (List ℕ) → List (List ℕ) → SchemaParts
named_parts dimensions measures spellings = record {
  dimensions = dimensions;
  measures = measures;
  least_measures = 1;
  spellings = spellings;
  max_records = Some default_max_records;
  grouping_sets = Some (all_sets (length dimensions));
  version = Some 1;
  columns = Some None;
  decimals = Some [];
  text_places = Some [];
}

-- the places of the texts that are counted, none where what is said of them is wrong
abbrev pub places_in : SchemaParts → List ℕ
places_in parts = unwrap_or parts.text_places []

-- what the aggregates of parts are of
abbrev pub counted_in : SchemaParts → List (List ℕ)
counted_in parts = counted_of_measures (places_in parts) parts.measures

-- the aggregates that are spelled
abbrev pub aggregates_in : SchemaParts → List Agg
aggregates_in parts = filter_map (aggregate_spelled (counted_in parts)) parts.spellings

-- whether each may be of what it is of
abbrev pub all_suit : SchemaParts → Bool
all_suit parts = list_all (suits (length (beside_places (places_in parts) 0 parts.measures))) (aggregates_in parts)

-- the faults of parts, in the order in which they are looked for
abbrev pub parts_faults : List SchemaFault
parts_faults = Dimensions ∷ Measures ∷ Name ∷ Aggregates ∷ MaxRecords ∷ Grouping ∷ Version ∷ Columns
    ∷ Decimals ∷ Texts ∷ []

-- whether parts have this fault
abbrev pub is_fault_of_parts : SchemaParts → SchemaFault → Bool
is_fault_of_parts parts Memory = false
is_fault_of_parts parts Toml = false
is_fault_of_parts parts UnknownKey = false
is_fault_of_parts parts Dimensions = not (is_some_up_to 8 parts.dimensions)
is_fault_of_parts parts Measures = not (is_number_of_measures parts.least_measures parts.measures)
is_fault_of_parts parts Name = not (are_lawful_names (parts.dimensions ++ parts.measures))
is_fault_of_parts parts Aggregates =
    not (is_some_up_to 16 parts.spellings && are_spellings (counted_in parts) parts.spellings && all_suit parts)
is_fault_of_parts parts MaxRecords = not (is_some parts.max_records)
is_fault_of_parts parts Grouping = not (is_some parts.grouping_sets)
is_fault_of_parts parts Version = not (is_some parts.version)
is_fault_of_parts parts Columns = not (is_some parts.columns)
is_fault_of_parts parts Decimals = not (is_some parts.decimals)
is_fault_of_parts parts Texts = not (is_some parts.text_places)

-- the schema of parts that have no fault
abbrev pub layout_of_parts : SchemaParts → Layout
layout_of_parts parts = record {
  dimensions = parts.dimensions ++ at_places (places_in parts) 0 parts.measures;
  measures = beside_places (places_in parts) 0 parts.measures;
  aggregates = aggregates_in parts;
  aggregate_texts = parts.spellings;
  max_records = unwrap_or parts.max_records default_max_records;
  grouping_sets = unwrap_or parts.grouping_sets [];
  version = unwrap_or parts.version 1;
  shard = whole_feed;
  max_record_bytes = None;
  columns = option_map (columns_with_texts (places_in parts)) (unwrap_or parts.columns None);
  decimals = beside_places (places_in parts) 0 (unwrap_or parts.decimals []);
  text_places = places_in parts;
}

-- what parts say: their first fault, or their schema
abbrev pub schema_of_parts : SchemaParts → Result Layout SchemaFault
schema_of_parts parts = option_map_or Err (find (is_fault_of_parts parts) parts_faults) (Ok (layout_of_parts parts))

-- what may be answered to parts: what they say, or that memory ran out
abbrev pub AnswersParts : SchemaParts → Result Layout SchemaFault → Type 0
AnswersParts parts (Err Memory) = ⊤
AnswersParts parts answer = answer ≡ schema_of_parts parts

-- the faults of a document, in the order in which they are looked for
abbrev pub document_faults : List SchemaFault
document_faults = UnknownKey ∷ parts_faults

-- whether a document has this fault
abbrev pub has_fault : Members → SchemaFault → Bool
has_fault document UnknownKey = not (has_known_keys document)
has_fault document fault = is_fault_of_parts (parts_in document) fault

-- the first fault of a document
abbrev pub first_fault : Members → Option SchemaFault
first_fault document = find (has_fault document) document_faults

-- the schema of a document that has no fault
abbrev pub layout_of : Members → Layout
layout_of document = layout_of_parts (parts_in document)

-- what a document says: its first fault, or its schema
abbrev pub schema_of : Members → Result Layout SchemaFault
schema_of document = option_map_or Err (first_fault document) (Ok (layout_of document))

-- what may be answered to a document: what it says, or that memory ran out
abbrev pub AnswersDocument : Members → Result Layout SchemaFault → Type 0
AnswersDocument document (Err Memory) = ⊤
AnswersDocument document answer = answer ≡ schema_of document

-- what may be answered to the bytes of a schema file:
-- what their document says, that they are no UTF-8 or no document, or that memory ran out
abbrev pub AnswersBytes : List ℕ → Result Layout SchemaFault → Type 0
AnswersBytes bytes (Err Memory) = ⊤
AnswersBytes bytes (Err Toml) = IsUtf8 bytes → parse_document bytes ≡ None
AnswersBytes bytes answer =
    IsUtf8 bytes × (document : Members) × (parse_document bytes ≡ Some document) × (answer ≡ schema_of document)
