-- The lines of JSON that a printed cube makes (texts as RFC 8259 has them; which lines is this project's choice).
use Rattle.std.specs.Prelude.{◌+◌, ◌-◌, ◌*◌, ◌/◌, ◌%◌, ◌==◌, ◌&&◌, ◌||◌, ◌++◌, ◌∷◌, [], ℕ, Bool, List, codes}
use Rattle.std.specs.Prelude.{if◌then◌else◌, length, map, nat_le, nat_lt, not, slice_index, unwrap_or}
use Rattle.std.specs.Char.{is_ascii_digit}
use Rattle.std.specs.List.{flat_map, list_all, list_any, range_with_len}
use Rattle.std.specs.Str.{bytes_eq}
use Rattle.csv.specs.Records.{field_at}
use Rattle.cube_console.specs.declared.views.json.Value.{Value}
use Rattle.cube_console.specs.declared.views.json.Value.TheVariants as value

-- ---- a text

-- the digit of a number below 16, in small letters
abbrev pub hex_digit : ℕ → ℕ
hex_digit n = if nat_lt n 10 then 48 + n else 87 + n

-- a byte of a text: `"`, `\` and bytes below 32 are escaped, the others stand for themselves (RFC 8259)
abbrev pub escaped : ℕ → List ℕ
escaped b =
    if b == 34 then codes "\\\""
    else if b == 92 then codes "\\\\"
    else if b == 10 then codes "\\n"
    else if b == 13 then codes "\\r"
    else if b == 9 then codes "\\t"
    else if nat_lt b 32 then codes "\\u00" ++ (hex_digit (b / 16) ∷ hex_digit (b % 16) ∷ [])
    else b ∷ []

-- a text between its quotes
abbrev pub quoted : List ℕ → List ℕ
quoted text = codes "\"" ++ flat_map escaped text ++ codes "\""

-- ---- a value

-- a dimension: null or a text
abbrev pub coordinate : List ℕ → List ℕ
coordinate field = if bytes_eq field (codes "\\N") then codes "null" else quoted field

-- a byte of a number
abbrev pub is_in_number : ℕ → Bool
is_in_number b = is_ascii_digit b || (b == 45) || (b == 46)

-- an answer is a number where it has digits, a sign and a point alone
abbrev pub is_number : List ℕ → Bool
is_number field = not (length field == 0) && list_all is_in_number field

-- an answer: a number as it stands, else null or a text
abbrev pub answer : List ℕ → List ℕ
answer field = if is_number field then field else coordinate field

-- a field as the values of its column are written
abbrev pub value_text : Value → List ℕ → List ℕ
value_text value.Coordinate field = coordinate field
value_text value.Grouping field = field
value_text value.Answer field = answer field
value_text value.Left field = []

-- ---- a column

-- the field at a place; empty where there is none
abbrev pub field_or_none : List (List ℕ) → ℕ → List ℕ
field_or_none fields place = unwrap_or (field_at fields place) []

-- what stands before a column's name: the beginning of its part, or a comma
abbrev pub opening : ℕ → ℕ → List ℕ
opening d place =
    if place == 0 then codes "{\"dimensions\":{"
    else if place == d then codes "},\"grouping\":{"
    else if place == 2 * d then codes "},\"answers\":{"
    else codes ","

-- a column is one of GROUPING: it comes behind the d dimensions, and there are as many
abbrev pub is_grouping : ℕ → ℕ → Bool
is_grouping d place = nat_le d place && nat_lt place (2 * d)

-- a column's name: of a GROUPING column that of its dimension
abbrev pub name_of : ℕ → List (List ℕ) → ℕ → List ℕ
name_of d header place =
    if is_grouping d place then field_or_none header (place - d) else field_or_none header place

-- the name at a place stands from `first` on before it too
abbrev pub stands_between : List (List ℕ) → ℕ → ℕ → Bool
stands_between header first place =
    list_any (λ other. bytes_eq (field_or_none header other) (field_or_none header place))
    (range_with_len first (place - first))

-- how a column's values are written: an aggregate that stands twice stands once
abbrev pub value_of : ℕ → List (List ℕ) → ℕ → Value
value_of d header place =
    if nat_lt place d then value.Coordinate
    else if nat_lt place (2 * d) then value.Grouping
    else if stands_between header (2 * d) place then value.Left
    else value.Answer

-- a column: what stands before its values, and how they are written
abbrev pub column_of : ℕ → List (List ℕ) → ℕ → List ℕ × Value
column_of d header place =
    (opening d place ++ quoted (name_of d header place) ++ codes ":", value_of d header place)

-- the columns of a printed cube with d dimensions and this header
abbrev pub columns_of : ℕ → List (List ℕ) → List (List ℕ × Value)
columns_of d header = map (column_of d header) (range_with_len 0 (length header))

-- ---- a line

-- a column's name and its value
abbrev pub cell : List ℕ × Value → List ℕ → List ℕ
cell (before, value.Left) field = []
cell (before, value) field = before ++ value_text value field

-- the cells of columns from a place on
abbrev pub cells_from : ℕ → List (List ℕ × Value) → List (List ℕ) → List ℕ
cells_from place [] fields = []
cells_from place (column ∷ columns) fields =
    cell column (field_or_none fields place) ++ cells_from (place + 1) columns fields

-- the line of a record under these columns
abbrev pub json_line : List (List ℕ × Value) → List (List ℕ) → List ℕ
json_line columns fields = cells_from 0 columns fields ++ codes "}}\n"

-- the lines of JSON of a printed cube with d dimensions, whose first record is its header
abbrev pub json_text : ℕ → List (List (List ℕ)) → List ℕ
json_text d [] = []
json_text d (header ∷ rows) = flat_map (json_line (columns_of d header)) rows
