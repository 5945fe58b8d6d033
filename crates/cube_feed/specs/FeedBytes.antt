-- The bytes of a feed as they are read on, and what tells how they end: a mark behind them, or one in place of the first
-- byte that is too many in its record (this project's choice). UTF-8 has no byte 255, and no feed's fields stand apart by
-- it.
use Rattle.std.specs.Prelude.{◌≡◌, ◌<◌, ◌==◌, ◌+◌, ◌&&◌, not, nat_lt, ℕ, Bool, true, false, List, [], ◌∷◌, ◌++◌, length}
use Rattle.std.specs.Prelude.{◌≤◌, drop, take, Option, Some, None, option_map, if◌then◌else◌}
use Rattle.csv.specs.Machine.{step}
use Rattle.csv.specs.declared.parser.State.{State}
use Rattle.csv.specs.declared.parser.State.TheVariants as state
use Rattle.cube_core.specs.FeedRecords.{config_by}
use Rattle.cube_feed.specs.declared.feed_bytes.Bounds.{Bounds}
use Rattle.cube_feed.specs.declared.place.Place.{Place}
use Rattle.cube_feed.specs.declared.place.Place.TheVariants as place

-- how `csv` stands at a place; the bytes of a byte order mark that isn't whole are those of a field
abbrev pub state_at : Place → State
state_at place.Start = state.StartRecord
state_at place.MarkBegun = state.InField
state_at place.MarkGoesOn = state.InField
state_at place.Marked = state.StartRecord
state_at place.Record = state.StartRecord
state_at place.Cr = state.AfterCr
state_at place.Field = state.StartField
state_at place.Plain = state.InField
state_at place.Quoted = state.InQuoted
state_at place.Quote = state.AfterQuote

-- the place at which `csv` stands so, which knows neither escapes nor comments
abbrev pub place_of : State → Place
place_of state.StartRecord = place.Record
place_of state.AfterCr = place.Cr
place_of state.StartField = place.Field
place_of state.InField = place.Plain
place_of state.InQuoted = place.Quoted
place_of state.AfterQuote = place.Quote
place_of state.InEscape = place.Plain
place_of state.InComment = place.Plain

-- the place behind a byte that goes on with no byte order mark
abbrev pub steps : ℕ → Place → ℕ → Place
steps delimiter at byte = place_of (step (config_by delimiter) (state_at at) byte).0

-- the place behind one more byte
abbrev pub place_after : ℕ → Place → ℕ → Place
place_after delimiter place.Start byte = if byte == 0xEF then place.MarkBegun else steps delimiter place.Start byte
place_after delimiter place.MarkBegun byte =
    if byte == 0xBB then place.MarkGoesOn else steps delimiter place.MarkBegun byte
place_after delimiter place.MarkGoesOn byte =
    if byte == 0xBF then place.Marked else steps delimiter place.MarkGoesOn byte
place_after delimiter place.Marked byte = steps delimiter place.Marked byte
place_after delimiter place.Record byte = steps delimiter place.Record byte
place_after delimiter place.Cr byte = steps delimiter place.Cr byte
place_after delimiter place.Field byte = steps delimiter place.Field byte
place_after delimiter place.Plain byte = steps delimiter place.Plain byte
place_after delimiter place.Quoted byte = steps delimiter place.Quoted byte
place_after delimiter place.Quote byte = steps delimiter place.Quote byte

-- whether no byte of the next record was read
abbrev pub is_before_record : Place → Bool
is_before_record place.Record = true
is_before_record place.Cr = true
is_before_record _ = false

-- whether a place is within quotes
abbrev pub is_quoted : Place → Bool
is_quoted place.Quoted = true
is_quoted _ = false

-- what is read behind the bytes of a feed, where a mark is read behind them: a line end and a quote
abbrev pub mark : List ℕ
mark = 10 ∷ 34 ∷ []

-- what is read in place of a byte that is too many in its record
abbrev pub excess_mark : ℕ
excess_mark = 255

-- the mark behind bytes that end at a place; where columns aren't known by name, a quote that is open there is closed
abbrev pub mark_at : Bool → Place → List ℕ
mark_at by_name at = if is_quoted at && not by_name then 34 ∷ mark else mark

-- what is read from a place on of bytes whose records may have so many of them, with the mark
abbrev pub bounded : ℕ → ℕ → Bool → Place → ℕ → List ℕ → List ℕ
bounded delimiter most by_name at count [] = mark_at by_name at
bounded delimiter most by_name at count (byte ∷ bytes) =
    if is_before_record (place_after delimiter at byte)
    then byte ∷ bounded delimiter most by_name (place_after delimiter at byte) 0 bytes
    else if nat_lt count most
    then byte ∷ bounded delimiter most by_name (place_after delimiter at byte) (count + 1) bytes
    else excess_mark ∷ []

-- the same, by what is known of the bounds
abbrev pub bounded_by : Bounds → List ℕ → List ℕ
bounded_by bounds bytes =
    bounded bounds.delimiter bounds.most bounds.is_by_name bounds.place bounds.count bytes

-- what is read of bytes: within bounds, or all, and then the mark
abbrev pub read_on : Option Bounds → List ℕ → List ℕ → List ℕ
read_on None behind bytes = bytes ++ behind
read_on (Some bounds) behind bytes = bounded_by bounds bytes

-- what is left to be read: of the bytes with their mark, or of the mark alone
abbrev pub bytes_left : Bool → Option Bounds → List ℕ → Option (List ℕ) → Option (List ℕ)
bytes_left true bounds behind bytes = Some behind
bytes_left false bounds behind bytes = option_map (read_on bounds behind) bytes

-- bytes pass within bounds, or one of them is the first that is too many in its record
abbrev pub Passes : Bounds → List ℕ → Bounds → Option ℕ → Type 0
Passes old bytes new None = (rest : List ℕ) → bounded_by old (bytes ++ rest) ≡ bytes ++ bounded_by new rest
Passes old bytes new (Some at) =
    (at < length bytes) × ((rest : List ℕ) → bounded_by old (bytes ++ rest) ≡ take at bytes ++ excess_mark ∷ [])

-- the bounds at a place up to which bytes were skipped: before a record, unless none were
abbrev pub begun_at : Bounds → ℕ → Bounds
begun_at bounds start = if start == 0 then bounds else record bounds { place = place.Record; count = 0 }

-- bytes up to a place pass within bounds, and a record may begin there, unless it is the first place
pub record IsSkipped (bounds : Bounds) (bytes : List ℕ) (at : ℕ) : Type 0 where
  pub at_most : at ≤ length bytes
  pub passes : (rest : List ℕ) → bounded_by bounds (bytes ++ rest)
      ≡ take at bytes ++ bounded_by (begun_at bounds at) (drop at bytes ++ rest)
