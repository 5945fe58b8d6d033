-- The builders of a run, each over its part of the schema's grouping sets (this project's choice).
use Rattle.std.specs.Prelude.{◌≡◌, ◌<◌, ℕ, Bool, List, [], ◌∷◌, length, map, slice_index_or, Option, None}
use Rattle.cube_core.specs.Arrival.{Arrivals}
use Rattle.cube_core.specs.Layout.{Layout, number_of_dimensions}
use Rattle.cube_core.specs.Query.{AreRowsWhere}
use Rattle.cube_core.specs.Run.{SourceBytes, AreGood, AreTaken}
use Rattle.cube_core.specs.Shard.{whole_feed}
use Rattle.cube_core.specs.TextPlaces.{counted}
use Rattle.cube_core.specs.declared.fact.Fact.{Fact}
use Rattle.cube_core.specs.declared.key.Key.{Key}
use Rattle.cube_core.specs.declared.key.Row.{Row}
use Rattle.cube_cells.specs.Rows.{IsRowOver}
use Rattle.cube_build.specs.Builder.{BuilderView, StandsAt}
use Rattle.cube_ledger.specs.Ledger.{LedgerView, all_facts}
use Rattle.cube_build.specs.Parted.{ArePartsOf, IsPartOver}
use Rattle.cube_rings.specs.Link.{Receiving}
use Rattle.cube_rings.specs.FeedingAll.{HasReceived}
use Rattle.cube_rings.specs.declared.parcel.Parcel.{Parcel}
use Rattle.cube_rings.specs.declared.gatherer.Gatherer.{Gatherer}
use Rattle.cube_build.specs.Drafts.{DraftView, IsMadeOf}

-- what a caller sees of the builders of a run: the builders by their parts, and the inlets of each
pub record BuiltView : Type 0 where
  pub builders : List BuilderView
  pub inlets : List (List (Receiving Parcel))

-- the ledger of no source, under a schema of no dimension
abbrev pub no_ledger : LedgerView
no_ledger = record {
  schema = record {
    dimensions = [];
    measures = [];
    aggregates = [];
    aggregate_texts = [];
    max_records = 0;
    grouping_sets = [];
    version = 1;
    shard = whole_feed;
    max_record_bytes = None;
    columns = None;
    decimals = [];
    text_places = [];
  };
  accounts = [];
}

-- the ledger of builder 0; that of no source where there is no builder
abbrev pub first_ledger : List BuilderView → LedgerView
first_ledger [] = no_ledger
first_ledger (builder ∷ builders) = builder.ledger

-- the schema of a run's builders
abbrev pub schema_of_run : BuiltView → Layout
schema_of_run built = (first_ledger built.builders).schema

-- the facts in the books of a run's builders, in the order of builder 0's
abbrev pub facts_of_run : BuiltView → List Fact
facts_of_run built = all_facts (first_ledger built.builders).accounts

-- the same as the cube of the schema counts them
abbrev pub counted_of_run : BuiltView → List Fact
counted_of_run built = map (counted (schema_of_run built)) (facts_of_run built)

-- what is true of the builders of a run:
-- there is one, and the cube of each is the part of its place of the cube of the facts in builder 0's books
abbrev pub AreParts : List BuilderView → Type 0
AreParts builders = ArePartsOf (λ builder. builder.cube) (first_ledger builders).schema
    (all_facts (first_ledger builders).accounts) builders

-- these are the rows of the cube of a run's facts, over all grouping sets of its schema, whose keys pass a test
abbrev pub AreRowsOfRun : (Key → Bool) → BuiltView → List Row → Type 0
AreRowsOfRun test built rows =
    AreRowsWhere test (schema_of_run built).grouping_sets (number_of_dimensions (schema_of_run built))
    (schema_of_run built).aggregates (counted_of_run built) rows

-- the row of a key of the cube of a run's facts, over all grouping sets of its schema, or none where the key is no cell
abbrev pub IsRowOfRun : Key → BuiltView → Option Row → Type 0
IsRowOfRun key built row =
    IsRowOver (schema_of_run built).grouping_sets (number_of_dimensions (schema_of_run built))
    (schema_of_run built).aggregates (counted_of_run built) key row

-- the builder of a part stands at an arrival list of so many sources, over the part's grouping sets, and from each link
-- were received a line for each item of its source, and then the end. Where a builder stands is told by what the list
-- has of each source, so one list serves builders to which items of different sources came in different orders
pub record PartStandsAt (s : Layout) (sources parts part : ℕ) (arrivals : Arrivals) (builder : BuilderView)
    (inlets : List (Receiving Parcel)) : Type 0 where
  pub schema : builder.ledger.schema ≡ s
  pub all : length builder.ledger.accounts ≡ sources
  pub over : IsPartOver s parts part builder.cube
  pub stands : StandsAt builder arrivals
  pub received : HasReceived sources arrivals inlets

-- so many builders stand at one arrival list of so many sources, each over its part of the schema's grouping sets
pub record StandsInParts (s : Layout) (sources parts : ℕ) (built : BuiltView) (arrivals : Arrivals) : Type 0 where
  pub builders : length built.builders ≡ parts
  pub inlets : length built.inlets ≡ parts
  pub each : (part : ℕ) (d : BuilderView) → part < parts
      → PartStandsAt s sources parts part arrivals (slice_index_or built.builders part d)
      (slice_index_or built.inlets part [])

-- so many builders have taken the feeds of all sources:
-- every feed is good, and they stand at an arrival list that has of each source its feed's items
pub record BuildsParts (s : Layout) (sources : SourceBytes) (parts : ℕ) (built : BuiltView) : Type 0 where
  pub good : AreGood s sources
  pub arrivals : Arrivals
  pub taken : AreTaken s sources arrivals
  pub stands : StandsInParts s (length sources) parts built arrivals

-- the builder of each part was made of the part's draft, and has the links by which the feeds came to it
pub record AreAllMade (gatherers : List (Gatherer DraftView)) (built : BuiltView) : Type 0 where
  pub builders : length built.builders ≡ length gatherers
  pub inlets : length built.inlets ≡ length gatherers
  pub made : (part : ℕ) (g : Gatherer DraftView) (d : BuilderView) → part < length gatherers
      → IsMadeOf (slice_index_or gatherers part g).builder (slice_index_or built.builders part d)
  pub links : (part : ℕ) (g : Gatherer DraftView) → part < length gatherers
      → slice_index_or built.inlets part [] ≡ (slice_index_or gatherers part g).inlets.items
