-- What a record of a session asks: a change of a source, a question, or neither (this project's choice).
use Rattle.std.specs.Prelude.{◌==◌, ◌&&◌, ◌+◌, nat_lt, ℕ, ℤ, pos, negsuc, List, length, drop, codes, decimal, Option}
use Rattle.std.specs.Prelude.{Some, None, option_and_then, Result, Ok, Err, if◌then◌else◌}
use Rattle.std.specs.Option.{option_map_or}
use Rattle.std.specs.Str.{bytes_eq, is_utf8}
use Rattle.cube_core.specs.Items.{field_at, number_of}
use Rattle.cube_core.specs.Layout.{Layout, number_of_dimensions}
use Rattle.cube_core.specs.Query.{Wanted, cell_of, drill_fault, place_of, spelled_by}
use Rattle.cube_core.specs.declared.key.Key.{Key}
use Rattle.cube_core.specs.declared.query.QueryFault.{QueryFault}
use Rattle.cube_live.specs.declared.request.Question.TheVariants.{Print, Slice, Drill, RollUp, Refusals, RefusalsAfter}
use Rattle.cube_live.specs.declared.request.Question.TheVariants.{Sync}
use Rattle.cube_live.specs.declared.request.Request.{Request}
use Rattle.cube_live.specs.declared.request.Request.TheVariants.{Change, Ask, Wrong}
use Rattle.cube_live.specs.declared.request.RequestFault.TheVariants.{Unknown, Shape, Query}

-- the whole number that an integer is, where a field is its digits
abbrev pub digits_of : List ℕ → ℤ → Option ℕ
digits_of field (pos n) = if bytes_eq field (decimal n) then Some n else None
digits_of field (negsuc n) = None

-- the whole number that a field writes in digits alone, with no leading zero
abbrev pub count_of : List ℕ → Option ℕ
count_of field = if is_utf8 field then option_and_then (digits_of field) (number_of field) else None

-- a number of a source is one from 1 to 64
abbrev pub source_numbered : ℕ → Option ℕ
source_numbered n = if nat_lt 0 n && nat_lt n 65 then Some n else None

-- the source that a field names
abbrev pub source_of : List ℕ → Option ℕ
source_of field = option_and_then source_numbered (count_of field)

-- what is asked by a value that is had, or wrong by the fault that it isn't had for
abbrev pub asked : {T : Type 0} → Result T QueryFault → (T → Request) → Request
asked (Ok value) ask = ask value
asked (Err fault) ask = Wrong (Query fault)

-- a request that has so many fields; one of another number is wrong
abbrev pub of_width : ℕ → List (List ℕ) → Request → Request
of_width width fields request = if length fields == width then request else Wrong Shape

-- what a slice asks: a field for each dimension
abbrev pub slice_request : Layout → List (List ℕ) → Request
slice_request s fields =
    of_width (1 + number_of_dimensions s) fields (asked (spelled_by (drop 1 fields)) (λ pattern. Ask (Slice pattern)))

-- the cell of a pattern, where there is a pattern
abbrev pub cell_by : Result Wanted QueryFault → Result Key QueryFault
cell_by (Ok pattern) = cell_of pattern
cell_by (Err fault) = Err fault

-- a cell and a dimension, or the first fault of the two
abbrev pub with_dimension : Result Key QueryFault → Result ℕ QueryFault → Result (Key × ℕ) QueryFault
with_dimension (Ok key) (Ok dimension) = Ok (key, dimension)
with_dimension (Ok key) (Err fault) = Err fault
with_dimension (Err fault) place = Err fault

-- the cell that the fields from the third on spell, and the dimension that the second names
abbrev pub cell_and_dimension : Layout → List (List ℕ) → Result (Key × ℕ) QueryFault
cell_and_dimension s fields = with_dimension (cell_by (spelled_by (drop 2 fields))) (place_of s (field_at fields 1))

-- the drill-down from a key along a dimension, where there is one
abbrev pub drill_by : Layout → Key × ℕ → Request
drill_by s at =
    option_map_or (λ fault. Wrong (Query fault)) (drill_fault s.grouping_sets at.1 at.0) (Ask (Drill at.0 at.1))

-- what a drill-down asks: the dimension, and a field for each dimension
abbrev pub drill_request : Layout → List (List ℕ) → Request
drill_request s fields =
    of_width (2 + number_of_dimensions s) fields (asked (cell_and_dimension s fields) (drill_by s))

-- what a roll-up asks: the dimension, and a field for each dimension
abbrev pub roll_up_request : Layout → List (List ℕ) → Request
roll_up_request s fields =
    of_width (2 + number_of_dimensions s) fields (asked (cell_and_dimension s fields) (λ at. Ask (RollUp at.0 at.1)))

-- the refusals of a source after a record of it
abbrev pub refusals_by : Option ℕ → Option ℕ → Request
refusals_by (Some source) (Some number) = Ask (RefusalsAfter source number)
refusals_by (Some source) None = Wrong Shape
refusals_by None number = Wrong Shape

-- the refusals of all sources, or those of a source after a record
abbrev pub refusals_asked : List (List ℕ) → Request
refusals_asked fields =
    if length fields == 1 then Ask Refusals
    else of_width 3 fields (refusals_by (source_of (field_at fields 1)) (count_of (field_at fields 2)))

-- what a record asks that is no change: its first field is the name of a question
abbrev pub question_of : Layout → List (List ℕ) → Request
question_of s fields =
    if bytes_eq (field_at fields 0) (codes "print") then of_width 1 fields (Ask Print)
    else if bytes_eq (field_at fields 0) (codes "slice") then slice_request s fields
    else if bytes_eq (field_at fields 0) (codes "drill") then drill_request s fields
    else if bytes_eq (field_at fields 0) (codes "rollup") then roll_up_request s fields
    else if bytes_eq (field_at fields 0) (codes "refusals") then refusals_asked fields
    else if bytes_eq (field_at fields 0) (codes "sync") then of_width 1 fields (Ask Sync)
    else Wrong Unknown

-- what a record asks: a change where its first field names a source
abbrev pub request_of : Layout → List (List ℕ) → Request
request_of s fields = option_map_or Change (source_of (field_at fields 0)) (question_of s fields)
