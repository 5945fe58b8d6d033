-- What feeding all sources to all that takes items promises, and why it may fail (this project's choice).
use Rattle.std.specs.Prelude.{◌≡◌, ◌≤◌, ⊤, ℕ, List, [], length, map}
use Rattle.std.specs.List.{AllZip}
use Rattle.cube_core.specs.Arrival.{Arrivals, of_sources}
use Rattle.cube_core.specs.Layout.{Layout}
use Rattle.cube_core.specs.Run.{SourceBytes, AreItemsOf, AreGood}
use Rattle.cube_core.specs.declared.change.Item.{Item}
use Rattle.cube_feed.specs.Faults.{IsLowestFault}
use Rattle.cube_rings.specs.declared.fault.FeedingFault.{FeedingFault}
use Rattle.cube_rings.specs.declared.fault.FeedingFault.TheVariants as feeding_fault
use Rattle.cube_rings.specs.Link.{Receiving}
use Rattle.cube_rings.specs.Parcels.{parcels_of}
use Rattle.cube_rings.specs.declared.parcel.Parcel.{Parcel}
use Rattle.cube_rings.specs.declared.gatherer.Gatherer.{Gatherer}

-- a builder of so many sources that has taken nothing
pub record IsNew {B : Type 0} (all : B → ℕ) (stands : B → B → Arrivals → Type 0) (sources : ℕ) (builder : B)
    : Type 0 where
  pub sources_are : all builder ≡ sources
  pub stands_at : stands builder builder []

-- from the link of each source were received a line for each of the source's arrivals, and then the end
abbrev pub HasReceived : ℕ → Arrivals → List (Receiving Parcel) → Type 0
HasReceived sources arrivals inlets =
    map (λ inlet. inlet.received) inlets ≡ map parcels_of (of_sources sources arrivals)

-- a builder has taken these feeds:
-- it stands at an arrival list that has of each source the items of its feed, and from each link were
-- received a line for each of these items, and then the end
pub record TakesFeeds {B : Type 0} (stands : B → Arrivals → Type 0) (feeds : List (List Item)) (gatherer : Gatherer B)
    : Type 0 where
  pub arrivals : Arrivals
  pub same : of_sources (length feeds) arrivals ≡ feeds
  pub stands_at : stands gatherer.builder arrivals
  pub received : HasReceived (length feeds) arrivals gatherer.inlets.items

-- builders have all taken the same feeds, those of all sources
pub record TakeAll {B : Type 0} (stands : B → B → Arrivals → Type 0) (s : Layout) (sources : SourceBytes)
    (builders : List B)
    (gatherers : List (Gatherer B)) : Type 0 where
  pub feeds : List (List Item)
  pub items : AllZip (AreItemsOf s) sources feeds
  pub each : AllZip (λ builder gatherer. TakesFeeds (stands builder) feeds gatherer) builders gatherers

-- why the feeds weren't taken:
-- memory or no thread before a record was read, or the lowest source's own fault; out of memory or of a
-- receipt only where all feeds are good
abbrev pub ExplainsFeeding : Layout → SourceBytes → FeedingFault → Type 0
ExplainsFeeding s sources feeding_fault.Memory = ⊤
ExplainsFeeding s sources feeding_fault.NoThread = ⊤
ExplainsFeeding s sources (feeding_fault.Feed source fault) = IsLowestFault s sources source fault
ExplainsFeeding s sources feeding_fault.Full = AreGood s sources
ExplainsFeeding s sources (feeding_fault.Unsealed source) = AreGood s sources × (1 ≤ source) × (source ≤ length sources)
