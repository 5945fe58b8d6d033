-- How the rows of several inputs are merged, step by step (this project's choice).
use Rattle.std.specs.Prelude.{◌≡◌, ◌<◌, ◌+◌, ◌∷◌, [], ◌++◌, ⊤, ℕ, Bool, true, false, List, Option, Some, None, IfSome}
use Rattle.std.specs.Prelude.{MatchOption, option_to_list, map, get_or, length, IsPermutation, Contains}
use Rattle.std.specs.List.{flat_map, list_all, AllByRecursion, AllZip}
use Rattle.std.specs.List.Sorted.{IsStrictlySortedBy}
use Rattle.std.specs.declared.cmp.Ordering.TheVariants.{Less}
use Rattle.std.specs.Io.KnownBytes.{Appends, Consumes, IsAtEnd}
use Rattle.cube_core.specs.Layout.{Layout, number_of_dimensions}
use Rattle.cube_core.specs.Cube.{is_total, key_of}
use Rattle.cube_core.specs.GroupingSet.{is_all_coord}
use Rattle.cube_core.specs.Merged.{AreMerged, IsMerged, rows_at}
use Rattle.cube_core.specs.Order.{key_cmp}
use Rattle.cube_core.specs.Text.{row_line, text_of_rows}
use Rattle.cube_core.specs.declared.aggregate.Agg.{Agg}
use Rattle.cube_core.specs.declared.key.Key.{Key}
use Rattle.cube_core.specs.declared.key.Row.{Row}
use Rattle.cube_merge.specs.Lawful.{AreConsistent, IsLawfulRow, IsRightRow}
use Rattle.cube_merge.specs.Range.{AreInRange}
use Rattle.cube_merge.specs.Source.{IsSourceOf}
use Rattle.cube_merge.specs.declared.source.Source.{Source}

-- what a contract sees of an input: the bytes that are left, where its reader tells them,
-- the row of the line taken last, and how many lines were taken
pub record InputView : Type 0 where
  pub left : Option (List ℕ)
  pub row : Option Row
  pub lines : ℕ

-- an input of nothing behind its header
abbrev pub nothing_left : InputView
nothing_left = record { left = None; row = None; lines = 1 }

-- a row's key is above that of the row before it, where there is one
abbrev pub IsAbove : Option Row → Row → Type 0
IsAbove None row = ⊤
IsAbove (Some before) row = key_cmp before.key row.key ≡ Less

-- there is a row, and its key is ALL in each dimension
abbrev pub IsTotalRow : Option Row → Type 0
IsTotalRow None = ⊥
IsTotalRow (Some row) = list_all is_all_coord row.key.coords ≡ true

-- a cube may end behind this row, or its header where there is none: with the grand total, if the schema keeps it
abbrev pub MayEnd : Layout → Option Row → Type 0
MayEnd s last = Contains s.grouping_sets 0 → IsTotalRow last

-- no byte is left of an input, of which this row was the last
abbrev pub TakesNone : Layout → InputView → InputView → Type 0
TakesNone s old new =
    Consumes old.left new.left [] × IfSome old.left (λ _. IsAtEnd new.left) × MayEnd s old.row

-- the next line was taken, that of a row of the schema above the one before, or none is left
abbrev pub TakesLine : Layout → InputView → InputView → Type 0
TakesLine s old new =
    MatchOption new.row (TakesNone s old new) (λ row.
    Consumes old.left new.left (row_line s row) × IsAbove old.row row × (new.lines ≡ old.lines + 1) × IsRightRow s row)

-- an input whose line was used took the next one, and any other stays
abbrev pub Moves : Layout → Bool → InputView → InputView → Type 0
Moves s true old new = TakesLine s old new
Moves s false old new = new ≡ old

-- the same of each input
abbrev pub AllMove : Layout → List Bool → List InputView → List InputView → Type 0
AllMove s used olds news =
    (k : ℕ) → Moves s (get_or used k false) (get_or olds k nothing_left) (get_or news k nothing_left)

-- the line of an input is used where its row has this key; the row of any other is above it
abbrev pub IsUse : Key → Bool → InputView → Type 0
IsUse key true input = (row : Row) × (input.row ≡ Some row) × (row.key ≡ key)
IsUse key false input = IfSome input.row (λ row. key_cmp key row.key ≡ Less)

-- the same of each input
abbrev pub AreUses : Key → List Bool → List InputView → Type 0
AreUses key used inputs = (k : ℕ) → IsUse key (get_or used k false) (get_or inputs k nothing_left)

-- the row that is used of an input
abbrev pub used_row : Bool → InputView → List Row
used_row true input = option_to_list input.row
used_row false input = []

-- the rows that are used of each input
abbrev pub used_of_each : List Bool → List InputView → List (List Row)
used_of_each [] inputs = []
used_of_each (used ∷ us) [] = []
used_of_each (used ∷ us) (input ∷ inputs) = used_row used input ∷ used_of_each us inputs

-- a row's key isn't below this one
abbrev pub IsNotBelow : Key → InputView → Type 0
IsNotBelow key input = IfSome input.row (λ row. key_cmp row.key key ≡ Less → ⊥)

-- of the inputs before a place none has a row, or this one's key is the least
abbrev pub IsLeastSoFar : List InputView → Option ℕ → ℕ → Type 0
IsLeastSoFar inputs None end = (k : ℕ) → k < end → (get_or inputs k nothing_left).row ≡ None
IsLeastSoFar inputs (Some place) end =
    (place < length inputs) × (row : Row) × ((get_or inputs place nothing_left).row ≡ Some row)
    × ((k : ℕ) → k < end → IsNotBelow row.key (get_or inputs k nothing_left))

-- all rows of cubes, one cube's after another's
abbrev pub all_rows : List (List Row) → List Row
all_rows cubes = flat_map (λ rows. rows) cubes

-- the rows that are used of all inputs
abbrev pub used_rows : List Bool → List InputView → List Row
used_rows used inputs = all_rows (used_of_each used inputs)

-- from what it had, an input gave these rows of a schema, and has taken the line of its row
abbrev pub Gave : Layout → Option (List ℕ) → InputView → List Row → Type 0
Gave s start input rows = Consumes start input.left (flat_map (row_line s) (rows ++ option_to_list input.row))

-- the rows that an input gave, and its row, are in key order, each key once
abbrev pub AreInKeyOrder : InputView → List Row → Type 0
AreInKeyOrder input rows = IsStrictlySortedBy key_cmp (map key_of (rows ++ option_to_list input.row))

-- the rows that an input gave, and its row, are rows of the schema
abbrev pub AreOfSchema : Layout → InputView → List Row → Type 0
AreOfSchema s input rows = AllByRecursion (IsRightRow s) (rows ++ option_to_list input.row)

-- the row of an input is that of the line taken last, behind the header and the lines of the rows that it gave
abbrev pub IsCounted : InputView → List Row → Type 0
IsCounted input rows = IfSome input.row (λ _. input.lines ≡ length rows + 2)

-- of an input without a row no byte is left, where it told what it had
abbrev pub IsEnded : Option (List ℕ) → InputView → Type 0
IsEnded start input = input.row ≡ None → IfSome start (λ _. IsAtEnd input.left)

-- the last of rows is the grand total
abbrev pub EndsWithTotal : Layout → List Row → Type 0
EndsWithTotal s rows =
    (before : List Row) × (last : Row) × (rows ≡ before ++ last ∷ [])
    × (is_total (number_of_dimensions s) last.key ≡ true)

-- rows are a whole cube's, as far as their last tells: it is the grand total, where the schema keeps that
abbrev pub AreWhole : Layout → List Row → Type 0
AreWhole s rows = Contains s.grouping_sets 0 → EndsWithTotal s rows

-- the rows that an input without a row gave are a whole cube's
abbrev pub IsWhole : Layout → InputView → List Row → Type 0
IsWhole s input rows = input.row ≡ None → AreWhole s rows

-- a key is below that of the input's row
abbrev pub IsBelow : Key → InputView → Type 0
IsBelow key input = IfSome input.row (λ row. key_cmp key row.key ≡ Less)

-- the counts, the sums and the sums of squares of a merged row, by the rows with its key, are in range
abbrev pub IsMadeInRange : List Agg → List Row → Row → Type 0
IsMadeInRange given parts row = AreInRange given (rows_at row.key parts)

-- so far these rows were merged of inputs that began with these bytes
pub record IsMerging (given : Layout) (wanted : List Agg) (starts : List (Option (List ℕ))) (inputs : List InputView)
    (rows : List Row) : Type 0 where
  pub cubes : List (List Row)
  pub parts : List Row
  pub width : length cubes ≡ length inputs
  pub gave : (k : ℕ) → Gave given (get_or starts k None) (get_or inputs k nothing_left) (get_or cubes k [])
  pub ordered : (k : ℕ) → AreInKeyOrder (get_or inputs k nothing_left) (get_or cubes k [])
  pub of_schema : (k : ℕ) → AreOfSchema given (get_or inputs k nothing_left) (get_or cubes k [])
  pub counted : (k : ℕ) → IsCounted (get_or inputs k nothing_left) (get_or cubes k [])
  pub ended : (k : ℕ) → IsEnded (get_or starts k None) (get_or inputs k nothing_left)
  pub whole : (k : ℕ) → k < length inputs → IsWhole given (get_or inputs k nothing_left) (get_or cubes k [])
  pub drawn : IsPermutation (all_rows cubes) parts
  pub merged : AreMerged given.aggregates wanted parts rows
  pub fit : AllByRecursion (IsMadeInRange given.aggregates parts) rows
  pub below : (key : Key) → Contains (map key_of rows) key → (k : ℕ) → IsBelow key (get_or inputs k nothing_left)

-- the row of the next key: it is made of the rows that are used
pub record IsNextRow (given : List Agg) (sources : List Source) (inputs : List InputView) (used : List Bool) (row : Row)
    : Type 0 where
  pub wide : length used ≡ length inputs
  pub uses : AreUses row.key used inputs
  pub some : 0 < length (used_rows used inputs)
  pub fit : AreInRange given (used_rows used inputs)
  pub answers : (wanted : List Agg) → AllZip (IsSourceOf given) wanted sources
      → AllZip (IsMerged given (used_rows used inputs)) wanted row.answers

-- the line of the row of the next key, as a row of the wanted schema, was put at the end of a text
abbrev pub PutsRow : List Agg → Layout → List Source → List InputView → List Bool → List ℕ → List ℕ → Type 0
PutsRow given wanted sources inputs used old new =
    (row : Row) × (new ≡ old ++ row_line wanted row) × IsNextRow given sources inputs used row

-- a row that merges of any inputs so far go on by
abbrev pub GoesOnBy : Layout → List Agg → List InputView → List InputView → Row → Type 0
GoesOnBy given wanted olds news row = (starts : List (Option (List ℕ))) (rows : List Row)
    → IsMerging given wanted starts olds rows → IsMerging given wanted starts news (rows ++ row ∷ [])

-- the line of the next merged row was put at the end of a text; or no input had a row
abbrev pub PutsNext : Layout → Layout → List Source → List InputView → List InputView → List ℕ → List ℕ → Bool → Type 0
PutsNext given wanted sources olds news old new true =
    AllZip (IsSourceOf given.aggregates) wanted.aggregates sources
    → (row : Row) × (new ≡ old ++ row_line wanted row) × GoesOnBy given wanted.aggregates olds news row
PutsNext given wanted sources olds news old new false =
    (new ≡ old) × (news ≡ olds) × ((k : ℕ) → (get_or olds k nothing_left).row ≡ None)

-- of what a reader had an input took the header alone, and has no row
abbrev pub TookHeader : {R : Type 0} → (R → Option (List ℕ)) → List ℕ → R → InputView → Type 0
TookHeader remaining header reader input =
    Consumes (remaining reader) input.left header × (input.row ≡ None) × (input.lines ≡ 1)

-- what was written is the cube of the rows that merges of these inputs go on by, to the end of each
abbrev pub MergesRest : Layout → Layout → List InputView → Option (List ℕ) → Option (List ℕ) → Type 0
MergesRest given wanted inputs old new =
    (starts : List (Option (List ℕ))) → IsMerging given wanted.aggregates starts inputs []
    → (ends : List InputView) × (rows : List Row) × (length ends ≡ length inputs)
    × IsMerging given wanted.aggregates starts ends rows
    × ((k : ℕ) → (get_or ends k nothing_left).row ≡ None) × Appends old new (text_of_rows wanted rows)

-- inputs that began with these bytes took the header alone
pub record TookHeaders (starts : List (Option (List ℕ))) (inputs : List InputView) : Type 0 where
  pub left : (k : ℕ) → Consumes (get_or starts k None) (get_or inputs k nothing_left).left []
  pub row : (k : ℕ) → (get_or inputs k nothing_left).row ≡ None
  pub lines : (k : ℕ) → (get_or inputs k nothing_left).lines ≡ 1

-- what was written is the cube of all rows of inputs that had none taken yet
abbrev pub MergesInputs : Layout → Layout → List InputView → Option (List ℕ) → Option (List ℕ) → Type 0
MergesInputs given wanted inputs old new =
    (starts : List (Option (List ℕ))) → TookHeaders starts inputs
    → (ends : List InputView) × (rows : List Row) × (length ends ≡ length inputs)
    × IsMerging given wanted.aggregates starts ends rows
    × ((k : ℕ) → (get_or ends k nothing_left).row ≡ None) × Appends old new (text_of_rows wanted rows)

-- a text is that of a cube's rows, where it is told
abbrev pub IsToldTextOf : Layout → Option (List ℕ) → List Row → Type 0
IsToldTextOf s text rows = IfSome text (λ known. known ≡ text_of_rows s rows)

-- the answers of a row to a schema's aggregates don't gainsay one another
abbrev pub HasConsistentAnswers : Layout → Row → Type 0
HasConsistentAnswers s row = AreConsistent s.aggregates row.answers

-- what was written is the text, under the wanted schema,
-- of the merged rows of cubes whose texts under the given one were read, each of rows of that schema in key order,
-- whose answers don't gainsay one another, and of which the last is the grand total, where the schema keeps that;
-- each count, each sum and each sum of squares that the rows with one key make is in range
pub record IsMergeOf (given wanted : Layout) (texts : List (Option (List ℕ))) (old new : Option (List ℕ)) : Type 0 where
  pub cubes : List (List Row)
  pub parts : List Row
  pub rows : List Row
  pub as_many : length cubes ≡ length texts
  pub read : (k : ℕ) → IsToldTextOf given (get_or texts k None) (get_or cubes k [])
  pub of_schema : (k : ℕ) → AllByRecursion (IsLawfulRow given) (get_or cubes k [])
  pub consistent : (k : ℕ) → AllByRecursion (HasConsistentAnswers given) (get_or cubes k [])
  pub ordered : (k : ℕ) → IsStrictlySortedBy key_cmp (map key_of (get_or cubes k []))
  pub complete : (k : ℕ) → k < length texts → AreWhole given (get_or cubes k [])
  pub drawn : IsPermutation (all_rows cubes) parts
  pub merged : AreMerged given.aggregates wanted.aggregates parts rows
  pub fit : AllByRecursion (IsMadeInRange given.aggregates parts) rows
  pub written : Appends old new (text_of_rows wanted rows)
