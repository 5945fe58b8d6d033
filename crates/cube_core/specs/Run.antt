-- What a run over the feeds of several sources takes and prints,
-- told by the bytes of the sources alone (this project's choice).
use Rattle.std.specs.Prelude.{◌≡◌, ℕ, List, length, Option, IfSome}
use Rattle.std.specs.List.{AllByRecursion, AllZip}
use Rattle.cube_core.specs.Arrival.{Arrivals, of_sources}
use Rattle.cube_core.specs.FeedRecords.{Good, feed_of}
use Rattle.cube_core.specs.Layout.{Layout}
use Rattle.cube_core.specs.declared.change.Item.{Item}

-- the bytes of each source, from the first; of a source whose reader doesn't tell its bytes nothing is said
abbrev pub SourceBytes : Type 0
SourceBytes = List (Option (List ℕ))

-- the feed of a source is good
abbrev pub IsGood : Layout → Option (List ℕ) → Type 0
IsGood s bytes = IfSome bytes (λ known. (feed_of s known).end ≡ Good)

-- these are all items of the feed of a source
abbrev pub AreItemsOf : Layout → Option (List ℕ) → List Item → Type 0
AreItemsOf s bytes items = IfSome bytes (λ known. items ≡ (feed_of s known).items)

-- good: the feed of every source is good
abbrev pub AreGood : Layout → SourceBytes → Type 0
AreGood s sources = AllByRecursion (IsGood s) sources

-- taken: what an arrival list has of each source are the items of its feed, each once and in their order
abbrev pub AreTaken : Layout → SourceBytes → Arrivals → Type 0
AreTaken s sources arrivals = AllZip (AreItemsOf s) sources (of_sources (length sources) arrivals)
