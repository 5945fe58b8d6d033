-- What a feeder sends, and what it leaves.
use Rattle.std.specs.Prelude.{◌≡◌, ⊤, ◌<◌, ◌≤◌, ℕ, List, ◌++◌, length, map, slice_index_or, Option, Some, None, IfSome}
use Rattle.cube_core.specs.FeedRecords.{RestOfFeed}
use Rattle.cube_core.specs.declared.change.Item.{Item}
use Rattle.cube_feed.specs.Feed.{KnownRest}
use Rattle.cube_feed.specs.declared.fault.FeedFault.{FeedFault}
use Rattle.cube_feed.specs.declared.fault.FeedFault.TheVariants.{Memory, Read, Header, TooMany, OpenQuote, LongRecord}
use Rattle.cube_rings.specs.Link.{Sending}
use Rattle.cube_rings.specs.Parcels.{parcels_of, sends}
use Rattle.cube_rings.specs.declared.parcel.Parcel.{Parcel}
use Rattle.cube_rings.specs.declared.parcel.FeederEnd.{FeederEnd}

-- these are all the items to come, and that is how they end
abbrev pub AreAll : RestOfFeed (Option FeedFault) → List Item → Option FeedFault → Type 0
AreAll rest items end = rest ≡ record { items = items; end = end }

-- these are the first of the items to come
abbrev pub AreFirst : RestOfFeed (Option FeedFault) → List Item → Type 0
AreFirst rest items = (more : List Item) × (rest.items ≡ items ++ more)

-- what a feeder's stop says of the items that it sent, where the reader tells its bytes:
-- without one, or by a fault of the feed's
-- end, they are all the items to come, and that is their end;
-- by out of memory or a fault of the reader they are the first of them
abbrev pub Stops : KnownRest → List Item → Option FeedFault → Type 0
Stops None items stop = ⊤
Stops (Some rest) items None = AreAll rest items None
Stops (Some rest) items (Some Memory) = AreFirst rest items
Stops (Some rest) items (Some Read) = AreFirst rest items
Stops (Some rest) items (Some Header) = AreAll rest items (Some Header)
Stops (Some rest) items (Some TooMany) = AreAll rest items (Some TooMany)
Stops (Some rest) items (Some (OpenQuote number)) = AreAll rest items (Some (OpenQuote number))
Stops (Some rest) items (Some (LongRecord number)) = AreAll rest items (Some (LongRecord number))

-- the items that came of a feed until it stopped were sent on each link, and then the end
pub record SendsAll (rest : KnownRest) (old new : List (Sending Parcel)) (stop : Option FeedFault) : Type 0 where
  pub items : List Item
  pub stops : Stops rest items stop
  pub sent : new ≡ map (sends (parcels_of items)) old

-- the receipt of an outlet's link, which names all that was sent on it
abbrev pub IsReceiptOf : Sending Parcel → Sending Parcel → Type 0
IsReceiptOf outlet receipt = (receipt.link ≡ outlet.link) × (receipt.sent ≡ outlet.sent)

-- the receipts of outlets, each at its outlet's place, where one was given
pub record AreReceipts (outlets : List (Sending Parcel)) (receipts : List (Option (Sending Parcel))) : Type 0 where
  pub each : (j : ℕ) (d : Sending Parcel) → j < length outlets
      → IfSome (slice_index_or receipts j None) (IsReceiptOf (slice_index_or outlets j d))
  pub others : (j : ℕ) → length outlets ≤ j → slice_index_or receipts j None ≡ None

-- what a feeder leaves: some items, of which its stop tells, and for each link the receipt,
-- where one was given, which names what was
-- sent before and then the parcels of these items
pub record Feeds (rest : KnownRest) (outlets : List (Sending Parcel)) (end : FeederEnd) : Type 0 where
  pub items : List Item
  pub stops : Stops rest items end.stop
  pub sealed : AreReceipts (map (sends (parcels_of items)) outlets) end.receipts
