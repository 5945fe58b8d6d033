-- What the end of a feed says of its fault.
use Rattle.std.proofs.Common.{◌≡◌, ℕ, false, refl}
use Rattle.std.specs.Prelude.{Some, None, Result, Ok, Err, is_err, OnOk}
use Rattle.cube_core.specs.FeedRecords.{FeedEnd, Good, WrongHeader, TooManyRecords, WithinQuotes, RecordTooLong}
use Rattle.cube_feed.specs.Feed.{fault_of}
use Rattle.cube_feed.specs.declared.fault.FeedFault.TheVariants.{Header, TooMany, OpenQuote, LongRecord}

-- a feed with no fault at its end is good
pub fault_of-None : (end : FeedEnd) → fault_of end ≡ None → end ≡ Good
fault_of-None Good none = refl
fault_of-None WrongHeader none = cc
fault_of-None TooManyRecords none = cc
fault_of-None (WithinQuotes other) none = cc
fault_of-None (RecordTooLong other) none = cc

-- the end of a feed tells the fault that it answers
pub fault_of-Header : (end : FeedEnd) → fault_of end ≡ Some Header → end ≡ WrongHeader
fault_of-Header Good is = cc
fault_of-Header WrongHeader is = refl
fault_of-Header TooManyRecords is = cc
fault_of-Header (WithinQuotes other) is = cc
fault_of-Header (RecordTooLong other) is = cc

pub fault_of-TooMany : (end : FeedEnd) → fault_of end ≡ Some TooMany → end ≡ TooManyRecords
fault_of-TooMany Good is = cc
fault_of-TooMany WrongHeader is = cc
fault_of-TooMany TooManyRecords is = refl
fault_of-TooMany (WithinQuotes other) is = cc
fault_of-TooMany (RecordTooLong other) is = cc

pub fault_of-OpenQuote : (end : FeedEnd) (number : ℕ) → fault_of end ≡ Some (OpenQuote number)
    → end ≡ WithinQuotes number
fault_of-OpenQuote Good number is = cc
fault_of-OpenQuote WrongHeader number is = cc
fault_of-OpenQuote TooManyRecords number is = cc
fault_of-OpenQuote (WithinQuotes other) number is = cc
fault_of-OpenQuote (RecordTooLong other) number is = cc

pub fault_of-LongRecord : (end : FeedEnd) (number : ℕ) → fault_of end ≡ Some (LongRecord number)
    → end ≡ RecordTooLong number
fault_of-LongRecord Good number is = cc
fault_of-LongRecord WrongHeader number is = cc
fault_of-LongRecord TooManyRecords number is = cc
fault_of-LongRecord (WithinQuotes other) number is = cc
fault_of-LongRecord (RecordTooLong other) number is = cc

-- a call that didn't fail did what it promises
pub OnOk-holds : {T E : Type 0} (r : Result T E) (P : Type 0) → is_err r ≡ false → OnOk r P → P
OnOk-holds (Ok x) P fine holds = holds
OnOk-holds (Err e) P fine holds = cc
