-- Why a merge is given up, and what it leaves written (this project's choice).
use Rattle.std.specs.Prelude.{◌≡◌, ◌≢◌, ◌<◌, ◌≤◌, ◌+◌, ◌-◌, ◌⊎◌, ◌∷◌, [], ◌++◌, ⊤, ℕ, Bool, true, false, List, Option}
use Rattle.std.specs.Prelude.{Some, None, IfSome, Contains, get_or, length, map, take}
use Rattle.std.specs.declared.cmp.Ordering.TheVariants.{Less}
use Rattle.std.specs.List.{AllByRecursion}
use Rattle.std.specs.List.Sorted.{IsStrictlySortedBy}
use Rattle.std.specs.Io.KnownBytes.{Appends, Consumes, IsAtEnd}
use Rattle.cube_core.specs.Cube.{is_total, key_of}
use Rattle.cube_core.specs.Layout.{Layout, number_of_dimensions}
use Rattle.cube_core.specs.Merged.{rows_at}
use Rattle.cube_core.specs.Order.{key_cmp}
use Rattle.cube_core.specs.Text.{header_fields, line, row_line, text_of_rows}
use Rattle.cube_core.specs.declared.aggregate.Agg.{Agg}
use Rattle.cube_core.specs.declared.key.Key.{Key}
use Rattle.cube_core.specs.declared.key.Row.{Row}
use Rattle.cube_merge.specs.Lawful.{IsRightRow}
use Rattle.cube_merge.specs.Joint.{rows_of}
use Rattle.cube_merge.specs.Merging.{InputView, TookHeaders, AreUses, AreWhole, IsAbove, IsMerging, IsToldTextOf, Moves}
use Rattle.cube_merge.specs.Merging.{all_rows, nothing_left, used_rows}
use Rattle.cube_merge.specs.Range.{AreInRange, AreTooLarge}
use Rattle.cube_merge.specs.NextLine.{next_line}
use Rattle.cube_merge.specs.declared.fault.InputFault.{InputFault}
use Rattle.cube_merge.specs.declared.fault.InputFault.TheVariants as why
use Rattle.cube_merge.specs.declared.fault.MergeFault.{MergeFault}
use Rattle.cube_merge.specs.declared.fault.MergeFault.TheVariants.{Memory, Aggregates, Input, Write}

-- how a merge tells a fault of the input at a place: by its number, counted from 1, and the record;
-- out of memory is told of no input
abbrev pub IsFaultAt : InputFault → ℕ → ℕ → MergeFault → Type 0
IsFaultAt fault place number Memory = ⊤
IsFaultAt fault place number (Input told input at) =
    (told ≡ fault) × (input ≡ place + 1) × (at ≡ number) × (fault ≢ why.Memory)
IsFaultAt fault place number _ = ⊥

-- reading failed, or memory ran out
abbrev pub IsReadFault : InputFault → Type 0
IsReadFault why.Memory = ⊤
IsReadFault why.Read = ⊤
IsReadFault _ = ⊥

-- the next line of an input is that of a row of the schema that isn't above the row before
pub record HasRowBelow (s : Layout) (input : InputView) : Type 0 where
  pub row : Row
  pub left : Option (List ℕ)
  pub taken : Consumes input.left left (row_line s row)
  pub of_schema : IsRightRow s row
  pub below : IsAbove input.row row → ⊥

-- an input has no line left, and its last row isn't the grand total, which the schema keeps
pub record LacksTotal (s : Layout) (input : InputView) : Type 0 where
  pub at_end : IsAtEnd input.left
  pub kept : Contains s.grouping_sets 0
  pub last : IfSome input.row (λ row. is_total (number_of_dimensions s) row.key ≡ false)

-- an input has something left
abbrev pub HasMore : InputView → Type 0
HasMore input = IfSome input.left (λ left. left ≢ [])

-- an input can't take its next line, which is this one, for this fault
abbrev pub HasFault : Layout → InputView → InputFault → ℕ → Type 0
HasFault s input why.Read number = number ≡ input.lines + 1
HasFault s input why.Line number = (number ≡ input.lines + 1) × HasMore input
HasFault s input why.Order number = (number ≡ input.lines + 1) × HasRowBelow s input
HasFault s input why.Incomplete number = (number ≡ input.lines + 1) × LacksTotal s input
HasFault s input _ number = ⊥

-- the same, or memory ran out
abbrev pub FailsToMove : Layout → InputView → InputFault → ℕ → Type 0
FailsToMove s input why.Memory number = ⊤
FailsToMove s input fault number = HasFault s input fault number

-- an input can take its next line, where this one was used
abbrev pub CanMove : Layout → Bool → InputView → Type 0
CanMove s used old = (new : InputView) × Moves s used old new

-- an input whose line was used can't take its next one, and those before it can
pub record HasFaultAt (s : Layout) (used : List Bool) (inputs : List InputView) (fault : InputFault) (input number : ℕ)
    : Type 0 where
  pub place : ℕ
  pub input_is : input ≡ place + 1
  pub inside : place < length inputs
  pub used_is : get_or used place false ≡ true
  pub has_fault : HasFault s (get_or inputs place nothing_left) fault number
  pub before : (k : ℕ) → k < place → CanMove s (get_or used k false) (get_or inputs k nothing_left)

-- the same, or memory ran out
abbrev pub FailsToMoveAll : Layout → List Bool → List InputView → MergeFault → Type 0
FailsToMoveAll s used inputs Memory = ⊤
FailsToMoveAll s used inputs (Input fault input number) = HasFaultAt s used inputs fault input number
FailsToMoveAll s used inputs _ = ⊥

-- the input of this number, counted from 1, has one of the rows with which a count, a sum or a sum of squares is
-- too large
pub record IsTooLargeAt (inputs : List InputView) (rows : List Row) (fault : InputFault) (input number : ℕ)
    : Type 0 where
  pub place : ℕ
  pub row : Row
  pub fault_is : fault ≡ why.Overflow
  pub input_is : input ≡ place + 1
  pub inside : place < length inputs
  pub row_is : (get_or inputs place nothing_left).row ≡ Some row
  pub among : Contains rows row
  pub number_is : number ≡ (get_or inputs place nothing_left).lines

-- the same, or memory ran out
abbrev pub TellsOverflow : List InputView → List Row → MergeFault → Type 0
TellsOverflow inputs rows Memory = ⊤
TellsOverflow inputs rows (Input fault input number) = IsTooLargeAt inputs rows fault input number
TellsOverflow inputs rows _ = ⊥

-- a count, a sum or a sum of squares of the rows of the inputs at these places is too large, or memory ran out
abbrev pub FailsToMake : List Agg → List InputView → List ℕ → MergeFault → Type 0
FailsToMake given inputs places Memory = ⊤
FailsToMake given inputs places (Input fault input number) =
    IsTooLargeAt inputs (rows_of inputs places) fault input number × AreTooLarge given (rows_of inputs places)
FailsToMake given inputs places _ = ⊥

-- of the rows of inputs those with the least key are too large together, and the input of this number has one of them
pub record JoinTooLarge (given : List Agg) (inputs : List InputView) (fault : InputFault) (input number : ℕ)
    : Type 0 where
  pub key : Key
  pub used : List Bool
  pub wide : length used ≡ length inputs
  pub uses : AreUses key used inputs
  pub at : IsTooLargeAt inputs (used_rows used inputs) fault input number
  pub too_large : AreTooLarge given (used_rows used inputs)

-- the same, or memory ran out
abbrev pub FailsToJoin : List Agg → List InputView → MergeFault → Type 0
FailsToJoin given inputs Memory = ⊤
FailsToJoin given inputs (Input fault input number) = JoinTooLarge given inputs fault input number
FailsToJoin given inputs _ = ⊥

-- an input with a row can't go on: a count, a sum or a sum of squares of that row's key is too large, or the next line
-- can't be taken
abbrev pub GoesWrong : Layout → InputView → InputFault → ℕ → Type 0
GoesWrong s input why.Overflow number = number ≡ input.lines
GoesWrong s input fault number = HasFault s input fault number

-- of inputs of which some are used the counts, sums and sums of squares are in range, and those before a place can take
-- their next line
pub record CameToPlace (s : Layout) (used : List Bool) (inputs : List InputView) (place : ℕ) : Type 0 where
  pub fit : AreInRange s.aggregates (used_rows used inputs)
  pub before : (k : ℕ) → k < place → CanMove s (get_or used k false) (get_or inputs k nothing_left)

-- the fault of the input of this number, counted from 1, whose row has the least key: the rows with that key are too
-- large together; or they aren't, the inputs before it can go on, and it can't
pub record FailsWithRow (s : Layout) (inputs : List InputView) (fault : InputFault) (input number : ℕ) : Type 0 where
  pub key : Key
  pub used : List Bool
  pub wide : length used ≡ length inputs
  pub uses : AreUses key used inputs
  pub some : 0 < length (used_rows used inputs)
  pub place : ℕ
  pub row : Row
  pub input_is : input ≡ place + 1
  pub inside : place < length inputs
  pub row_is : (get_or inputs place nothing_left).row ≡ Some row
  pub key_is : row.key ≡ key
  pub goes_wrong : GoesWrong s (get_or inputs place nothing_left) fault number
  pub too_large : fault ≡ why.Overflow → AreTooLarge s.aggregates (used_rows used inputs)
  pub came : fault ≢ why.Overflow → CameToPlace s used inputs place

-- the next merged row couldn't be put, or an input that had a row couldn't take its next line
abbrev pub StepFails : Layout → List InputView → MergeFault → Type 0
StepFails s inputs Memory = ⊤
StepFails s inputs (Input fault input number) = FailsWithRow s inputs fault input number
StepFails s inputs _ = ⊥

-- a text is the header line, the lines of these rows of the schema in key order, and this rest,
-- whose first line is the record of this number, the header being the first
pub record SplitsAt (s : Layout) (text : List ℕ) (rows : List Row) (rest : List ℕ) (number : ℕ) : Type 0 where
  pub text_is : text ≡ text_of_rows s rows ++ rest
  pub of_schema : AllByRecursion (IsRightRow s) rows
  pub ordered : IsStrictlySortedBy key_cmp (map key_of rows)
  pub number_is : number ≡ length rows + 2

-- something stands behind the lines of rows
pub record HasWrongLine (s : Layout) (number : ℕ) (text : List ℕ) : Type 0 where
  pub rows : List Row
  pub rest : List ℕ
  pub stands : SplitsAt s text rows rest number
  pub some : rest ≢ []

-- behind the lines of rows the line of a row follows whose key isn't above that of the row before
pub record IsOutOfOrder (s : Layout) (number : ℕ) (text : List ℕ) : Type 0 where
  pub rows : List Row
  pub before : Row
  pub row : Row
  pub rest : List ℕ
  pub stands : SplitsAt s text (rows ++ before ∷ []) (row_line s row ++ rest) number
  pub of_schema : IsRightRow s row
  pub below : key_cmp before.key row.key ≢ Less

-- behind the lines of rows the line of a row follows
pub record HasRowAt (s : Layout) (number : ℕ) (text : List ℕ) : Type 0 where
  pub rows : List Row
  pub row : Row
  pub rest : List ℕ
  pub stands : SplitsAt s text rows (row_line s row ++ rest) number

-- the last of rows isn't the grand total
abbrev pub EndsWithoutTotal : Layout → List Row → Type 0
EndsWithoutTotal s rows =
    (before : List Row) (last : Row) → rows ≡ before ++ last ∷ [] → is_total (number_of_dimensions s) last.key ≡ false

-- nothing follows the lines of rows, of which the last isn't the grand total, which the schema keeps
pub record IsIncomplete (s : Layout) (number : ℕ) (text : List ℕ) : Type 0 where
  pub rows : List Row
  pub stands : SplitsAt s text rows [] number
  pub kept : Contains s.grouping_sets 0
  pub last : EndsWithoutTotal s rows

-- some lines of rows could be read, if the header could
pub record IsReadSoFar (s : Layout) (number : ℕ) (text : List ℕ) : Type 0 where
  pub rows : List Row
  pub rest : List ℕ
  pub stands : SplitsAt s text rows rest number

-- why an input with this text has a fault at the record of this number
abbrev pub ExplainsFault : Layout → InputFault → ℕ → List ℕ → Type 0
ExplainsFault s why.Memory number text = ⊥
ExplainsFault s why.Read number text = (number ≡ 1) ⊎ IsReadSoFar s number text
ExplainsFault s why.Header number text = (number ≡ 1) × ((rest : List ℕ) → text ≢ line (header_fields s) ++ rest)
ExplainsFault s why.Line number text = HasWrongLine s number text
ExplainsFault s why.Order number text = IsOutOfOrder s number text
ExplainsFault s why.Overflow number text = HasRowAt s number text
ExplainsFault s why.Incomplete number text = IsIncomplete s number text

-- this text begins with the header line and the lines of these rows of the schema, where it is told
abbrev pub BeginsWith : Layout → Option (List ℕ) → List Row → Type 0
BeginsWith s text rows = IfSome text (λ known. (rest : List ℕ) × SplitsAt s known rows rest (length rows + 2))

-- a text is all of a whole cube: the header line and the lines of these rows, where it is told
abbrev pub IsWholeText : Layout → Option (List ℕ) → List Row → Type 0
IsWholeText s text rows = IsToldTextOf s text rows × AreWhole s rows

-- the last of rows has such a key
abbrev pub EndsWith : (Key → Type 0) → List Row → Type 0
EndsWith Is rows = (before : List Row) × (last : Row) × (rows ≡ before ++ last ∷ []) × Is last.key

-- a text begins with the lines of these rows, which are all that it has, or of which the last has such a key
abbrev pub IsReadTo : Layout → (Key → Type 0) → Option (List ℕ) → List Row → Type 0
IsReadTo s Is text rows = BeginsWith s text rows × (IsWholeText s text rows ⊎ EndsWith Is rows)

-- a text could be read so far
abbrev pub CanBeReadTo : Layout → (Key → Type 0) → Option (List ℕ) → Type 0
CanBeReadTo s Is text = (rows : List Row) × IsReadTo s Is text rows

-- no fault was met before the rows with this key were merged: these are the first rows of each text, at least to that
-- key, and no count, no sum and no sum of squares of those with a lesser key is too large
pub record CameTo (s : Layout) (texts : List (Option (List ℕ))) (key : Key) (cubes : List (List Row)) : Type 0 where
  pub as_many : length cubes ≡ length texts
  pub read : (k : ℕ) → k < length texts
      → IsReadTo s (λ last. key_cmp last key ≢ Less) (get_or texts k None) (get_or cubes k [])
  pub fit : (lesser : Key) → key_cmp lesser key ≡ Less → AreInRange s.aggregates (rows_at lesser (all_rows cubes))

-- the last of rows has this key, and its line is the record of this number
abbrev pub EndsAtRecord : Key → ℕ → List Row → Type 0
EndsAtRecord key number rows =
    (before : List Row) × (last : Row) × (rows ≡ before ++ last ∷ []) × (last.key ≡ key) × (number ≡ length before + 2)

-- the rows of all texts with some key, the least of those that aren't merged, are too large together,
-- and the record of this number of the text at a place has that key
pub record IsTooLarge (s : Layout) (texts : List (Option (List ℕ))) (place number : ℕ) : Type 0 where
  pub cubes : List (List Row)
  pub key : Key
  pub came : CameTo s texts key cubes
  pub record_is : EndsAtRecord key number (get_or cubes place [])
  pub too_large : AreTooLarge s.aggregates (rows_at key (all_rows cubes))

-- the record of this number of the text at a place is read next: it is behind that of a row with some key,
-- the rows with that key can be merged, and the texts before it can be read past it
pub record IsReadNext (s : Layout) (texts : List (Option (List ℕ))) (place number : ℕ) : Type 0 where
  pub cubes : List (List Row)
  pub key : Key
  pub came : CameTo s texts key cubes
  pub row_before : (before : ℕ) × (number ≡ before + 1) × EndsAtRecord key before (get_or cubes place [])
  pub fit : AreInRange s.aggregates (rows_at key (all_rows cubes))
  pub others : (k : ℕ) → k < place → CanBeReadTo s (λ last. key_cmp key last ≡ Less) (get_or texts k None)

-- the first row of the text at a place is read next: each text has the header, and those before it can be read on
pub record IsFirstRowNext (s : Layout) (texts : List (Option (List ℕ))) (place number : ℕ) : Type 0 where
  pub number_is : number ≡ 2
  pub headers : (k : ℕ) → k < length texts → BeginsWith s (get_or texts k None) []
  pub others : (k : ℕ) → k < place → CanBeReadTo s (λ _. ⊤) (get_or texts k None)

-- the header of the text at a place is read next: those before it have theirs
pub record IsHeaderNext (s : Layout) (texts : List (Option (List ℕ))) (place number : ℕ) : Type 0 where
  pub number_is : number ≡ 1
  pub others : (k : ℕ) → k < place → BeginsWith s (get_or texts k None) []

-- no fault was met before the record of this number of the text at a place was read
abbrev pub IsMetFirst : Layout → List (Option (List ℕ)) → ℕ → ℕ → Type 0
IsMetFirst s texts place number =
    IsHeaderNext s texts place number ⊎ (IsFirstRowNext s texts place number ⊎ IsReadNext s texts place number)

-- the input of this number, counted from 1, has a fault at a record, and no fault was met before
pub record InputFails (s : Layout) (texts : List (Option (List ℕ))) (fault : InputFault) (input number : ℕ)
    : Type 0 where
  pub from_one : 1 ≤ input
  pub within : input ≤ length texts
  pub explains : IfSome (get_or texts (input - 1) None) (ExplainsFault s fault number)
  pub too_large : fault ≡ why.Overflow → IsTooLarge s texts (input - 1) number
  pub first : fault ≢ why.Overflow → IsMetFirst s texts (input - 1) number

-- what was written is the first bytes, so many, of the text of the rows that were merged of inputs so far;
-- each input took the header of its text, and began with what was left
pub record WroteFirstRows (given wanted : Layout) (texts : List (Option (List ℕ))) (sent : ℕ)
    (old new : Option (List ℕ))
    : Type 0 where
  pub starts : List (Option (List ℕ))
  pub inputs : List InputView
  pub rows : List Row
  pub as_many : length inputs ≡ length texts
  pub headed : (k : ℕ) → Consumes (get_or texts k None) (get_or starts k None) (line (header_fields given))
  pub merging : IsMerging given wanted.aggregates starts inputs rows
  pub within : sent ≤ length (text_of_rows wanted rows)
  pub written : Appends old new (take sent (text_of_rows wanted rows))

-- nothing was written, or the first bytes of the text of merged rows
abbrev pub WroteSome : Layout → Layout → List (Option (List ℕ)) → Option (List ℕ) → Option (List ℕ) → Type 0
WroteSome given wanted texts old new = (new ≡ old) ⊎ ((sent : ℕ) × WroteFirstRows given wanted texts sent old new)

-- what a merge that failed leaves written, and why it failed
abbrev pub FailsToMerge : Layout → Layout → List (Option (List ℕ)) → MergeFault → Option (List ℕ) → Option (List ℕ)
    → Type 0
FailsToMerge given wanted texts Memory old new = WroteSome given wanted texts old new
FailsToMerge given wanted texts Aggregates old new = new ≡ old
FailsToMerge given wanted texts (Input fault input number) old new =
    WroteSome given wanted texts old new × InputFails given texts fault input number
FailsToMerge given wanted texts (Write sent) old new = WroteFirstRows given wanted texts sent old new

-- bytes couldn't be written behind so many that were sent before:
-- the first of them went out, or none since they would be too many to count
abbrev pub FailsToSend : List ℕ → ℕ → MergeFault → Option (List ℕ) → Option (List ℕ) → Type 0
FailsToSend bytes sent Memory old new = new ≡ old
FailsToSend bytes sent (Write total) old new =
    (part : ℕ) × (part ≤ length bytes) × (total ≡ sent + part) × Appends old new (take part bytes)
FailsToSend bytes sent _ old new = ⊥

-- why a merge stopped that had sent so many bytes, where its inputs stood so
abbrev pub StopsAt : Layout → List InputView → ℕ → MergeFault → Type 0
StopsAt s inputs sent Memory = ⊤
StopsAt s inputs sent Aggregates = ⊥
StopsAt s inputs sent (Input fault input number) = FailsWithRow s inputs fault input number
StopsAt s inputs sent (Write total) = total ≡ sent

-- how far a merge came that failed: it merged these rows, and the first bytes of their text were written
pub record FailsAfter (given wanted : Layout) (starts : List (Option (List ℕ))) (count : ℕ) (fault : MergeFault)
    (old new : Option (List ℕ)) : Type 0 where
  pub inputs : List InputView
  pub rows : List Row
  pub sent : ℕ
  pub as_many : length inputs ≡ count
  pub merging : IsMerging given wanted.aggregates starts inputs rows
  pub within : sent ≤ length (text_of_rows wanted rows)
  pub written : Appends old new (take sent (text_of_rows wanted rows))
  pub why : StopsAt given inputs sent fault

-- the same, from inputs by which merges go on
abbrev pub RestFails : Layout → Layout → List InputView → MergeFault → Option (List ℕ) → Option (List ℕ) → Type 0
RestFails given wanted inputs fault old new =
    (starts : List (Option (List ℕ))) → IsMerging given wanted.aggregates starts inputs []
    → FailsAfter given wanted starts (length inputs) fault old new

-- of inputs whose headers were taken one couldn't take its first line, and those before it could
pub record FirstLineFails (s : Layout) (inputs : List InputView) (fault : InputFault) (input number : ℕ) : Type 0 where
  pub used : List Bool
  pub all_used : (k : ℕ) → k < length inputs → get_or used k false ≡ true
  pub at : HasFaultAt s used inputs fault input number

-- the same, or memory ran out
abbrev pub FailsAtFirstLine : Layout → List InputView → MergeFault → Type 0
FailsAtFirstLine s inputs Memory = ⊤
FailsAtFirstLine s inputs (Input fault input number) = FirstLineFails s inputs fault input number
FailsAtFirstLine s inputs _ = ⊥

-- the same, from inputs that took the header alone; where the first lines couldn't be taken, nothing was written
abbrev pub InputsFail : Layout → Layout → List InputView → MergeFault → Option (List ℕ) → Option (List ℕ) → Type 0
InputsFail given wanted inputs fault old new =
    (starts : List (Option (List ℕ))) → TookHeaders starts inputs
    → ((new ≡ old) × FailsAtFirstLine given inputs fault) ⊎ FailsAfter given wanted starts (length inputs) fault old new

-- the fault of a text whose header line couldn't be taken
abbrev pub HasNoHeader : List ℕ → Option (List ℕ) → InputFault → ℕ → Type 0
HasNoHeader header text why.Read number = number ≡ 1
HasNoHeader header text why.Header number = (number ≡ 1) × IfSome text (λ known. next_line known ≢ header)
HasNoHeader header text _ number = ⊥

-- the same, or memory ran out
abbrev pub FailsToTakeHeader : List ℕ → Option (List ℕ) → InputFault → Type 0
FailsToTakeHeader header text why.Memory = ⊤
FailsToTakeHeader header text fault = HasNoHeader header text fault 1

-- the same of the text at a place
abbrev pub FailsToOpen : List ℕ → ℕ → Option (List ℕ) → MergeFault → Type 0
FailsToOpen header place text Memory = ⊤
FailsToOpen header place text (Input fault input number) = (input ≡ place + 1) × HasNoHeader header text fault number
FailsToOpen header place text _ = ⊥

-- one of many texts has a header line that couldn't be taken, and those before it begin with theirs
pub record IsNotOpened (header : List ℕ) (texts : List (Option (List ℕ))) (fault : InputFault) (input number : ℕ)
    : Type 0 where
  pub place : ℕ
  pub input_is : input ≡ place + 1
  pub inside : place < length texts
  pub no_header : HasNoHeader header (get_or texts place None) fault number
  pub before : (k : ℕ) → k < place → (left : Option (List ℕ)) × Consumes (get_or texts k None) left header

-- the same, or memory ran out
abbrev pub FailsToOpenAll : List ℕ → List (Option (List ℕ)) → MergeFault → Type 0
FailsToOpenAll header texts Memory = ⊤
FailsToOpenAll header texts (Input fault input number) = IsNotOpened header texts fault input number
FailsToOpenAll header texts _ = ⊥
