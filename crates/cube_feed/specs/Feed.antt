-- What a feed has to come, and what each call of it gives (this project's choice).
use Rattle.std.specs.Prelude.{◌≡◌, ⊤, ◌+◌, ◌<◌, ◌≤◌, ℕ, Bool, true, false, List, [], length, Option, Some, None, option_map}
use Rattle.std.specs.Prelude.{Result, Ok, Err, IfOk, IfSome}
use Rattle.cube_core.specs.Layout.{Layout}
use Rattle.cube_core.specs.Shard.{whole_feed}
use Rattle.cube_core.specs.Takes.{takes}
use Rattle.cube_core.specs.FeedRecords.{RestOfFeed, FeedEnd, Good, WrongHeader, TooManyRecords, item_then, items_of}
use Rattle.cube_core.specs.FeedRecords.{WithinQuotes, RecordTooLong, ends_as, feed_of, items_after}
use Rattle.cube_core.specs.declared.change.Item.{Item}
use Rattle.cube_core.specs.declared.feed_columns.FoundColumns.{FoundColumns}
use Rattle.cube_feed.specs.declared.fault.FeedFault.{FeedFault}
use Rattle.cube_feed.specs.declared.fault.FeedFault.TheVariants.{Memory, Read, Header, TooMany, OpenQuote, LongRecord}
use Rattle.cube_feed.specs.declared.feed.Stage.{Stage}
use Rattle.cube_feed.specs.declared.feed.Stage.TheVariants as stage
use Rattle.cube_feed.specs.FeedText.{TextLeft}

-- what is left of the text of a feed, where its reader tells its bytes
abbrev pub Left : Type 0
Left = Option TextLeft

-- what lies ahead in a feed, where its reader tells its bytes:
-- the items to come, and the fault that follows them, if one does
abbrev pub KnownRest : Type 0
KnownRest = Option (RestOfFeed (Option FeedFault))

-- the fault of a feed's end
abbrev pub fault_of : FeedEnd → Option FeedFault
fault_of Good = None
fault_of WrongHeader = Some Header
fault_of TooManyRecords = Some TooMany
fault_of (WithinQuotes number) = Some (OpenQuote number)
fault_of (RecordTooLong number) = Some (LongRecord number)

-- the rest of a feed, where its end is told as a fault
abbrev pub with_fault : RestOfFeed FeedEnd → RestOfFeed (Option FeedFault)
with_fault rest = record { items = rest.items; end = fault_of rest.end }

-- nothing is to come but this end
abbrev pub nothing_but : Option FeedFault → RestOfFeed (Option FeedFault)
nothing_but end = record { items = []; end = end }

-- what is to come of a feed of these bytes, where its reader tells them
abbrev pub rest_of_feed : Layout → Option (List ℕ) → KnownRest
rest_of_feed schema bytes =
    option_map (λ (known : List ℕ). with_fault (feed_of schema known)) bytes

-- what comes of a text before its header was read, and after it and so many data records
abbrev pub comes_first : Layout → TextLeft → RestOfFeed FeedEnd
comes_first schema left = ends_as schema left.end (length left.records) (items_of schema left.records)

abbrev pub comes_after : Layout → FoundColumns → ℕ → TextLeft → RestOfFeed FeedEnd
comes_after schema columns number left = ends_as schema left.end (number + 1 + length left.records)
    (items_after schema columns number left.records)

-- what is to come before the header was read, and after it
abbrev pub before_header : Layout → Left → KnownRest
before_header schema left = option_map (λ (known : TextLeft). with_fault (comes_first schema known)) left

abbrev pub after_header : Layout → FoundColumns → ℕ → Left → KnownRest
after_header schema columns number left =
    option_map (λ (known : TextLeft). with_fault (comes_after schema columns number known)) left

-- what a caller sees of a feed:
-- its schema, the number of its last item, its end once it has come there, and what is to come,
-- where its reader tells its bytes
pub record FeedView : Type 0 where
  pub schema : Layout
  pub number : ℕ
  pub ended : Option (Option FeedFault)
  pub to_come : KnownRest

-- the end that a feed has come to
abbrev pub ended_of : Stage → Option (Option FeedFault)
ended_of stage.Start = None
ended_of stage.Records = None
ended_of (stage.Ended end) = Some end

-- what is to come at a stage
abbrev pub to_come_of : Layout → FoundColumns → ℕ → Stage → Left → KnownRest
to_come_of schema columns number stage.Start left = before_header schema left
to_come_of schema columns number stage.Records left = after_header schema columns number left
to_come_of schema columns number (stage.Ended end) left = Some (nothing_but end)

-- the feed has ended so: nothing is to come but this end
abbrev pub HasEnded : FeedView → Option FeedFault → Type 0
HasEnded feed end = (feed.ended ≡ Some end) × (feed.to_come ≡ Some (nothing_but end))

-- what a feed that has ended answers
abbrev pub end_answer : Option FeedFault → Result (Option Item) FeedFault
end_answer None = Ok None
end_answer (Some fault) = Err fault

-- the answer is the first item to come, and the others are left; an end only where nothing but that is to come.
-- Memory and the reader may fail at any time
abbrev pub Gives : KnownRest → Result (Option Item) FeedFault → KnownRest → Type 0
Gives None answer new = ⊤
Gives (Some old) (Ok (Some item)) new =
    (rest : RestOfFeed (Option FeedFault)) × (old ≡ item_then item rest) × (new ≡ Some rest)
Gives (Some old) (Ok None) new = old ≡ nothing_but None
Gives (Some old) (Err Memory) new = ⊤
Gives (Some old) (Err Read) new = ⊤
Gives (Some old) (Err Header) new = old ≡ nothing_but (Some Header)
Gives (Some old) (Err TooMany) new = old ≡ nothing_but (Some TooMany)
Gives (Some old) (Err (OpenQuote number)) new = old ≡ nothing_but (Some (OpenQuote number))
Gives (Some old) (Err (LongRecord number)) new = old ≡ nothing_but (Some (LongRecord number))

-- a change that is given is one that the schema takes
abbrev pub IsTaken : Layout → Result (Option Item) FeedFault → Type 0
IsTaken schema answer =
    IfOk answer (λ next. IfSome next (λ item. IfOk item.what (λ change. takes schema change ≡ true)))

-- the number of an item that is given, or the one before where none is
abbrev pub number_after : ℕ → Result (Option Item) FeedFault → ℕ
number_after number (Ok (Some item)) = item.number
number_after number (Ok None) = number
number_after number (Err fault) = number

-- an item's number comes after the one before, and is the schema's number of records at most;
-- of a whole feed it is the next
pub record IsNumbered (s : Layout) (before number : ℕ) : Type 0 where
  pub after : before < number
  pub at_most : number ≤ s.max_records
  pub next : s.shard ≡ whole_feed → number ≡ before + 1

-- an item is numbered after the one before; without one the number stays
abbrev pub Numbers : FeedView → Result (Option Item) FeedFault → FeedView → Type 0
Numbers old (Ok (Some item)) new =
    IsNumbered old.schema old.number item.number × (new.number ≡ item.number) × (new.ended ≡ None)
Numbers old (Ok None) new = new.number ≡ old.number
Numbers old (Err fault) new = new.number ≡ old.number

-- the header was taken, which says where the columns stand, and the data records are left;
-- or there is no record, or the first isn't the header
abbrev pub TakesHeader : Layout → Left → Result Bool FeedFault → FoundColumns → Left → Type 0
TakesHeader schema None answer columns new = ⊤
TakesHeader schema (Some left) (Ok true) columns new =
    (rest : TextLeft) × (comes_first schema left ≡ comes_after schema columns 0 rest) × (new ≡ Some rest)
TakesHeader schema (Some left) (Ok false) columns new = comes_first schema left ≡ record { items = []; end = Good }
TakesHeader schema (Some left) (Err Memory) columns new = ⊤
TakesHeader schema (Some left) (Err Read) columns new = ⊤
TakesHeader schema (Some left) (Err Header) columns new =
    comes_first schema left ≡ record { items = []; end = WrongHeader }
TakesHeader schema (Some left) (Err TooMany) columns new = ⊥
TakesHeader schema (Some left) (Err (OpenQuote number)) columns new =
    comes_first schema left ≡ record { items = []; end = WithinQuotes number }
TakesHeader schema (Some left) (Err (LongRecord number)) columns new =
    comes_first schema left ≡ record { items = []; end = RecordTooLong number }

-- what is true of every feed: its last item's number is the schema's number of records at most,
-- and 0 before the header was read
pub record IsFeed (schema : Layout) (number : ℕ) (at : Stage) : Type 0 where
  pub number_at_most : number ≤ schema.max_records
  pub none_at_start : at ≡ stage.Start → number ≡ 0
