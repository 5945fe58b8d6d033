-- What one builder takes of the feeds of all sources: a ledger, and the cells of its facts over the finest grouping set
-- alone (this project's choice).
use Rattle.std.specs.Prelude.{◌≡◌, ◌∷◌, [], ℕ, List, length}
use Rattle.cube_core.specs.Arrival.{Arrivals}
use Rattle.cube_core.specs.Layout.{Layout}
use Rattle.cube_core.specs.Run.{SourceBytes, AreGood, AreTaken}
use Rattle.cube_core.specs.declared.condition.Condition.{Condition}
use Rattle.cube_cells.specs.Cube.{Lattice}
use Rattle.cube_ledger.specs.Interest.{ledger_of_interest}
use Rattle.cube_ledger.specs.Ledger.{LedgerView, LedgerStandsAt}
use Rattle.cube_rings.specs.FeedingAll.{HasReceived}
use Rattle.cube_rings.specs.Link.{Receiving}
use Rattle.cube_rings.specs.declared.parcel.Parcel.{Parcel}
use Rattle.cube_build.specs.Builder.{BuilderView}
use Rattle.cube_build.specs.Counting.{AreCounts, AreFilledFrom, HaveFactsOf, IsOverFinest}
use Rattle.cube_build.specs.Parts.{BuiltView}
use Rattle.cube_build.specs.declared.making.MadePart.{MadePart}

-- what a caller sees of what one builder took: its ledger, the cells over the finest grouping set, and the inlets by
-- which the feeds came
pub record TakenView : Type 0 where
  pub ledger : LedgerView
  pub cells : Lattice
  pub inlets : List (Receiving Parcel)

-- what is true of all that one builder took: the cells have the facts of the ledger, and so many, and the refusals are its
-- own
pub record IsTaken (refused ledger : LedgerView) (cells : Lattice) (facts : ℕ) : Type 0 where
  pub are : AreCounts refused ledger cells
  pub number : facts ≡ cells.facts

-- what one builder took has the facts of interest of a whole ledger: that ledger stands at an arrival list of so many
-- sources, the builder's own is that of the facts of interest in it, and the finest cells have these; from each link
-- were received a line for each item of its source, and then the end
pub record TakenStandsWhere (s : Layout) (conditions : List Condition) (sources : ℕ) (taken : TakenView)
    (arrivals : Arrivals) : Type 0 where
  pub whole : LedgerView
  pub schema : whole.schema ≡ s
  pub all : length whole.accounts ≡ sources
  pub stands : LedgerStandsAt whole arrivals
  pub kept : taken.ledger ≡ ledger_of_interest conditions whole
  pub cells : HaveFactsOf taken.ledger taken.cells
  pub received : HasReceived sources arrivals taken.inlets

-- one builder has taken the feeds of all sources, and has the facts of interest alone in its finest cells:
-- every feed is good, and it stands so at an arrival list that has of each source its feed's items
pub record TakesWhere (s : Layout) (conditions : List Condition) (sources : SourceBytes) (taken : TakenView)
    : Type 0 where
  pub good : AreGood s sources
  pub arrivals : Arrivals
  pub taken_are : AreTaken s sources arrivals
  pub stands : TakenStandsWhere s conditions (length sources) taken arrivals

-- what is seen of a part that was taken
abbrev pub seen_of : {N : Type 0} → MadePart N → TakenView
seen_of part = record { ledger = part.builder.ledger; cells = part.builder.cube; inlets = part.inlets.items }

-- a part, whose cube is over the finest grouping set alone, has taken the feeds of all sources
pub record IsTakenPart {N : Type 0} (s : Layout) (conditions : List Condition) (sources : SourceBytes) (part : MadePart N)
    : Type 0 where
  pub finest : IsOverFinest part.builder.cube
  pub takes : TakesWhere s conditions sources (seen_of part)

-- what was built is a part alone, filled from one over the finest grouping set
pub record IsFilledFrom {N : Type 0} (part : MadePart N) (built : BuiltView) : Type 0 where
  pub counts : BuilderView
  pub builders : built.builders ≡ counts ∷ []
  pub inlets : built.inlets ≡ part.inlets.items ∷ []
  pub filled : AreFilledFrom part.builder counts
