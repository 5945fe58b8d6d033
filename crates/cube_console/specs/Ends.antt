-- Where a text of CSV stands in a record, byte by byte, how many records end in it,
-- and that a reader of csv says the same.
use Rattle.std.specs.Prelude.{◌≡◌, ◌==◌, ◌||◌, ◌+◌, ◌∷◌, [], ⊤, Bool, true, false, ℕ, List, if◌then◌else◌}
use Rattle.csv.specs.Machine.{is_end, step}
use Rattle.csv.specs.Reading.{default_config}
use Rattle.csv.specs.declared.parser.State.{State}
use Rattle.csv.specs.declared.parser.State.TheVariants as st
use Rattle.cube_console.specs.declared.place.Place.{Place}
use Rattle.cube_console.specs.declared.place.Place.TheVariants as at

-- whether a byte is one of a line's end (RFC 4180)
abbrev pub is_line_end : ℕ → Bool
is_line_end b = (b == 13) || (b == 10)

-- where a text stands behind a byte that is in no quotes and begins none, and whether a record ends with it (RFC 4180)
abbrev pub after_plain : ℕ → Place × Bool
after_plain b =
    if b == 44 then (at.Field, false) else if is_line_end b then (at.Record, true) else (at.Plain, false)

-- the same of a byte that may be a quote that begins, or goes on with, a quoted field (RFC 4180)
abbrev pub after_open : ℕ → Place × Bool
after_open b = if b == 34 then (at.Quoted, false) else after_plain b

-- the same of a byte at a place: an empty line is no record (RFC 4180)
abbrev pub after_byte : Place → ℕ → Place × Bool
after_byte at.Record b = if is_line_end b then (at.Record, false) else after_open b
after_byte at.Field b = after_open b
after_byte at.Plain b = after_plain b
after_byte at.Quoted b = if b == 34 then (at.Quote, false) else (at.Quoted, false)
after_byte at.Quote b = after_open b

-- the place at which a reader of csv stands so
abbrev pub place_of : State → Place
place_of st.StartRecord = at.Record
place_of st.AfterCr = at.Record
place_of st.StartField = at.Field
place_of st.InField = at.Plain
place_of st.InQuoted = at.Quoted
place_of st.AfterQuote = at.Quote
place_of st.InEscape = at.Quoted
place_of st.InComment = at.Record

-- a reader of csv that knows neither escapes nor comments may stand so
abbrev pub IsUsual : State → Type 0
IsUsual st.StartRecord = ⊤
IsUsual st.AfterCr = ⊤
IsUsual st.StartField = ⊤
IsUsual st.InField = ⊤
IsUsual st.InQuoted = ⊤
IsUsual st.AfterQuote = ⊤
IsUsual st.InEscape = ⊥
IsUsual st.InComment = ⊥

-- a reader of csv stands at this place of a text
pub record IsAt (s : State) (place : Place) : Type 0 where
  pub usual : IsUsual s
  pub same : place ≡ place_of s

-- how a reader of csv stands behind more bytes
abbrev pub state_after : State → List ℕ → State
state_after s [] = s
state_after s (b ∷ bytes) = state_after (step default_config s b).0 bytes

-- how many records end in the bytes that a reader of csv is given
abbrev pub ends_in : State → List ℕ → ℕ
ends_in s [] = 0
ends_in s (b ∷ bytes) =
    (if is_end (step default_config s b).1 then 1 else 0) + ends_in (step default_config s b).0 bytes
