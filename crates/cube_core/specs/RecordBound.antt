-- A bound on the bytes of a text's records: which text has a record with more bytes before its line end, and what is read
-- of such a text (this project's choice). Quotes and line ends within a record count.
use Rattle.std.specs.Prelude.{◌+◌, nat_lt, ℕ, Bool, true, false, List, [], ◌∷◌, if◌then◌else◌}
use Rattle.csv.specs.Machine.{step}
use Rattle.csv.specs.Reading.{is_bom}
use Rattle.csv.specs.declared.parser.Config.{Config}
use Rattle.csv.specs.declared.parser.State.{State}
use Rattle.csv.specs.declared.parser.State.TheVariants as state

-- whether `csv` stands between records
abbrev pub is_between : State → Bool
is_between state.StartRecord = true
is_between state.AfterCr = true
is_between state.StartField = false
is_between state.InField = false
is_between state.InQuoted = false
is_between state.AfterQuote = false
is_between state.InEscape = false
is_between state.InComment = false

-- whether a record of the bytes that `csv` reads from a state on has more than `most` of them before its line end;
-- `count` bytes of the record that it stands in were read
abbrev pub is_exceeded : Config → ℕ → State → ℕ → List ℕ → Bool
is_exceeded config most at count [] = false
is_exceeded config most at count (byte ∷ bytes) =
    if is_between (step config at byte).0 then is_exceeded config most (step config at byte).0 0 bytes
    else if nat_lt count most then is_exceeded config most (step config at byte).0 (count + 1) bytes
    else true

-- the bytes up to the first one that is too many in its record, and that one; all of them, where none is
abbrev pub up_to_excess : Config → ℕ → State → ℕ → List ℕ → List ℕ
up_to_excess config most at count [] = []
up_to_excess config most at count (byte ∷ bytes) =
    if is_between (step config at byte).0 then byte ∷ up_to_excess config most (step config at byte).0 0 bytes
    else if nat_lt count most then byte ∷ up_to_excess config most (step config at byte).0 (count + 1) bytes
    else byte ∷ []

-- how many bytes the byte order mark at the start of a text has, if one is there
abbrev pub mark_length : List ℕ → ℕ
mark_length [] = 0
mark_length (_ ∷ []) = 0
mark_length (_ ∷ _ ∷ []) = 0
mark_length (a ∷ b ∷ c ∷ _) = if is_bom a b c then 3 else 0
