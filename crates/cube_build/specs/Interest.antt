-- The builders of a run over the facts of interest alone (this project's choice).
use Rattle.std.specs.Prelude.{◌≡◌, ◌<◌, ℕ, List, [], length, slice_index_or}
use Rattle.cube_core.specs.Arrival.{Arrivals}
use Rattle.cube_core.specs.Layout.{Layout}
use Rattle.cube_core.specs.Run.{SourceBytes, AreGood, AreTaken}
use Rattle.cube_core.specs.declared.condition.Condition.{Condition}
use Rattle.cube_ledger.specs.Interest.{ledger_of_interest}
use Rattle.cube_ledger.specs.Ledger.{LedgerView, LedgerStandsAt, all_facts}
use Rattle.cube_rings.specs.FeedingAll.{HasReceived}
use Rattle.cube_rings.specs.Link.{Receiving}
use Rattle.cube_rings.specs.declared.gatherer.Gatherer.{Gatherer}
use Rattle.cube_rings.specs.declared.parcel.Parcel.{Parcel}
use Rattle.cube_build.specs.Builder.{BuilderView, HasFacts}
use Rattle.cube_build.specs.Drafts.{DraftView}
use Rattle.cube_build.specs.Parted.{IsPartOver}
use Rattle.cube_build.specs.Parts.{BuiltView}

-- a draft whose ledger has the facts of interest alone
abbrev pub draft_of_interest : List Condition → DraftView → DraftView
draft_of_interest conditions draft =
    record { ledger = ledger_of_interest conditions draft.ledger; cube = draft.cube }

-- what was gathered, with a draft of the facts of interest alone
abbrev pub gathered_of_interest : List Condition → Gatherer DraftView → Gatherer DraftView
gathered_of_interest conditions gatherer =
    record gatherer { builder = draft_of_interest conditions gatherer.builder }

-- the builder of a part has the facts of interest of a whole ledger: that ledger stands at an arrival list of so many
-- sources, the builder's own is that of the facts of interest in it, and its cube has these over the part's grouping
-- sets; from each link were received a line for each item of its source, and then the end. So refusals, schema and
-- sources are those of the whole, whatever the conditions, and with no condition the builder stands at the list
pub record PartStandsWhere (s : Layout) (conditions : List Condition) (sources parts part : ℕ) (arrivals : Arrivals)
    (builder : BuilderView) (inlets : List (Receiving Parcel)) : Type 0 where
  pub whole : LedgerView
  pub schema : whole.schema ≡ s
  pub all : length whole.accounts ≡ sources
  pub stands : LedgerStandsAt whole arrivals
  pub kept : builder.ledger ≡ ledger_of_interest conditions whole
  pub over : IsPartOver s parts part builder.cube
  pub has : HasFacts builder.ledger.schema (all_facts builder.ledger.accounts) builder.cube
  pub received : HasReceived sources arrivals inlets

-- so many builders have the facts of interest of ledgers that stand at one arrival list of so many sources, each over
-- its part of the schema's grouping sets
pub record StandsWhere (s : Layout) (conditions : List Condition) (sources parts : ℕ) (built : BuiltView)
    (arrivals : Arrivals) : Type 0 where
  pub builders : length built.builders ≡ parts
  pub inlets : length built.inlets ≡ parts
  pub each : (part : ℕ) (d : BuilderView) → part < parts
      → PartStandsWhere s conditions sources parts part arrivals (slice_index_or built.builders part d)
      (slice_index_or built.inlets part [])

-- so many builders have taken the feeds of all sources, and count the facts of interest alone:
-- every feed is good, and they stand so at an arrival list that has of each source its feed's items
pub record BuildsWhere (s : Layout) (conditions : List Condition) (sources : SourceBytes) (parts : ℕ)
    (built : BuiltView) : Type 0 where
  pub good : AreGood s sources
  pub arrivals : Arrivals
  pub taken : AreTaken s sources arrivals
  pub stands : StandsWhere s conditions (length sources) parts built arrivals
