-- What the laws of the schema document speak of (this project's choice).
use Rattle.std.specs.Prelude.{◌≡◌, ◌<◌, ◌++◌, ℕ, Bool, List, [], true, false, not, codes, get_or, Option, Some, None, option_map}
use Rattle.std.specs.List.{list_all}
use Rattle.toml.specs.Data.{Members, get_member}
use Rattle.cube_core.specs.Layout.{Layout, counted_names, counted_texts, cube_dimensions, is_listed}
use Rattle.cube_core.specs.TextPlaces.{at_places, beside_places}
use Rattle.cube_core.specs.TextsDocument.{columns_with_texts}
use Rattle.cube_core.specs.declared.feed_columns.FeedColumns.{FeedColumns}
use Rattle.cube_core.specs.SchemaDocument.{has_fault, has_known_keys, texts_at, max_records_in, grouping_sets_in}
use Rattle.cube_core.specs.SchemaDocument.{version_in, columns_in, decimals_in, text_places_in}
use Rattle.cube_core.specs.declared.aggregate.Agg.{Agg}
use Rattle.cube_core.specs.declared.aggregate.Agg.TheVariants.{CountDistinct}
use Rattle.cube_core.specs.declared.schema_fault.SchemaFault.{SchemaFault}
use Rattle.cube_core.specs.declared.schema_fault.SchemaFault.TheVariants as fault

-- whether the spelling of an aggregate is none of a count too: no measure is named as what a distinct count has
-- in brackets
abbrev pub is_told_apart : List (List ℕ) → Agg → Bool
is_told_apart measures (CountDistinct m) = not (is_listed (codes "distinct " ++ get_or measures m []) measures)
is_told_apart measures _ = true

-- whether that is so of each aggregate of a schema
abbrev pub are_told_apart : Layout → Bool
are_told_apart s = list_all (is_told_apart (counted_names s)) s.aggregates

-- the document has no other keys than a schema's, and under each what the schema has there; the texts that are counted
-- stand among the measures, and their columns among those of measures
pub record WritesSchema (document : Members) (s : Layout) : Type 0 where
  pub known_keys : has_known_keys document ≡ true
  pub dimensions : texts_at (codes "dimensions") document ≡ Some (cube_dimensions s)
  pub all_measures : List (List ℕ)
  pub measures : texts_at (codes "measures") document ≡ Some all_measures
  pub numbers : beside_places s.text_places 0 all_measures ≡ s.measures
  pub texts : at_places s.text_places 0 all_measures ≡ counted_texts s
  pub aggregates : texts_at (codes "aggregates") document ≡ Some s.aggregate_texts
  pub max_records : max_records_in document ≡ Some s.max_records
  pub grouping_sets : grouping_sets_in document ≡ Some s.grouping_sets
  pub version : version_in document ≡ Some s.version
  pub all_columns : Option FeedColumns
  pub columns : columns_in document ≡ Some all_columns
  pub columns_are : option_map (columns_with_texts s.text_places) all_columns ≡ s.columns
  pub all_decimals : List (Option ℕ)
  pub decimals : decimals_in document ≡ Some all_decimals
  pub decimals_are : beside_places s.text_places 0 all_decimals ≡ s.decimals
  pub text_places : text_places_in document ≡ Some s.text_places

-- the document has these arrays of texts, and no other key
pub record GivesNames (document : Members) (dimensions measures spellings : List (List ℕ)) : Type 0 where
  pub known_keys : has_known_keys document ≡ true
  pub at_dimensions : texts_at (codes "dimensions") document ≡ Some dimensions
  pub at_measures : texts_at (codes "measures") document ≡ Some measures
  pub at_aggregates : texts_at (codes "aggregates") document ≡ Some spellings
  pub max_records : get_member (codes "max_records") document ≡ None
  pub grouping : get_member (codes "grouping") document ≡ None
  pub version : get_member (codes "version") document ≡ None
  pub feed : get_member (codes "feed") document ≡ None
  pub decimals : get_member (codes "decimals") document ≡ None
  pub texts : get_member (codes "texts") document ≡ None

-- the numbers of the faults of a schema, as their codes S1 to S13 have them
abbrev pub number_of_fault : SchemaFault → ℕ
number_of_fault fault.Memory = 1
number_of_fault fault.Toml = 2
number_of_fault fault.UnknownKey = 3
number_of_fault fault.Dimensions = 4
number_of_fault fault.Measures = 5
number_of_fault fault.Name = 6
number_of_fault fault.Aggregates = 7
number_of_fault fault.MaxRecords = 8
number_of_fault fault.Grouping = 9
number_of_fault fault.Version = 10
number_of_fault fault.Columns = 11
number_of_fault fault.Decimals = 12
number_of_fault fault.Texts = 13

-- a document has this fault, and none with a smaller number
pub record IsFirstFault (document : Members) (fault : SchemaFault) : Type 0 where
  pub holds : has_fault document fault ≡ true
  pub none_before : (other : SchemaFault) → number_of_fault other < number_of_fault fault
      → has_fault document other ≡ false
