-- The fault of a feed, told by the bytes of its source,
-- and the lowest source whose feed is at fault (this project's choice).
use Rattle.std.specs.Prelude.{◌≡◌, ◌≤◌, ◌-◌, ⊤, ℕ, List, length, take, get_or, Option, None, IfSome}
use Rattle.cube_core.specs.FeedRecords.{FeedEnd, WrongHeader, TooManyRecords, WithinQuotes, RecordTooLong, feed_of}
use Rattle.cube_core.specs.Layout.{Layout}
use Rattle.cube_core.specs.Run.{SourceBytes, AreGood}
use Rattle.cube_feed.specs.declared.fault.FeedFault.{FeedFault}
use Rattle.cube_feed.specs.declared.fault.FeedFault.TheVariants.{Memory, Read, Header, TooMany, OpenQuote, LongRecord}

-- how the feed of a fault ends; out of memory and the reader's own fault may come at any time
abbrev pub IsEndOf : FeedEnd → FeedFault → Type 0
IsEndOf end Memory = ⊤
IsEndOf end Read = ⊤
IsEndOf end Header = end ≡ WrongHeader
IsEndOf end TooMany = end ≡ TooManyRecords
IsEndOf end (OpenQuote number) = end ≡ WithinQuotes number
IsEndOf end (LongRecord number) = end ≡ RecordTooLong number

-- a fault of the feed of a source
abbrev pub IsFaultOf : Layout → Option (List ℕ) → FeedFault → Type 0
IsFaultOf s bytes fault = IfSome bytes (λ known. IsEndOf (feed_of s known).end fault)

-- the feed of this source is at fault, and those of all lower sources are good
pub record IsLowestFault (s : Layout) (sources : SourceBytes) (source : ℕ) (fault : FeedFault) : Type 0 where
  pub first : 1 ≤ source
  pub last : source ≤ length sources
  pub lower : AreGood s (take (source - 1) sources)
  pub ends : IsFaultOf s (get_or sources (source - 1) None) fault
