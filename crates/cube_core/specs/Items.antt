-- The header of a feed and the change that a record spells (this project's choice of a change feed).
use Rattle.std.specs.Prelude.{◌==◌, ◌||◌, ◌&&◌, ◌+◌, nat_lt, ℕ, ℤ, Bool, true, false, not, pos, negsuc, ◌^◌, List}
use Rattle.std.specs.Prelude.{[], ◌∷◌, ◌++◌, length, map, take, drop, get_or, codes, Option, Some, None, is_some}
use Rattle.std.specs.Prelude.{option_map, Result, Ok, Err, if◌then◌else◌}
use Rattle.std.specs.Str.{bytes_eq, is_utf8, all_ascii_digits}
use Rattle.std.specs.Str.Parse.{without_leading_sign, signed_digits_value}
use Rattle.std.specs.List.{list_all, list_any, filter_map}
use Rattle.cube_core.specs.Layout.{Layout, number_of_dimensions}
use Rattle.cube_core.specs.TextPlaces.{with_places_first}
use Rattle.cube_core.specs.Takes.{null_text, may_amend, may_upsert}
use Rattle.cube_core.specs.declared.fact.Fact.{Fact}
use Rattle.cube_core.specs.declared.change.Change.{Change}
use Rattle.cube_core.specs.declared.change.Change.TheVariants.{Insert, Update, Amend, Upsert, Delete, Remove}
use Rattle.cube_core.specs.declared.change.LineFault.{LineFault}
use Rattle.cube_core.specs.declared.change.LineFault.TheVariants as fault
use Rattle.cube_core.specs.declared.partial.Field.{Field}
use Rattle.cube_core.specs.declared.partial.Field.TheVariants.{Keep, Put}
use Rattle.cube_core.specs.declared.partial.Partial.{Partial}

-- the fields of a record with a fact: the operation, the id, a value for each dimension and one for each measure
abbrev pub width_of : Layout → ℕ
width_of s = 2 + length s.dimensions + length s.measures

-- the field at a place of a record
abbrev pub field_at : List (List ℕ) → ℕ → List ℕ
field_at fields place = get_or fields place []

-- whether two records have the same fields
abbrev pub same_fields : List (List ℕ) → List (List ℕ) → Bool
same_fields [] [] = true
same_fields [] (_ ∷ _) = false
same_fields (_ ∷ _) [] = false
same_fields (a ∷ as') (b ∷ bs) = bytes_eq a b && same_fields as' bs

-- the byte order mark U+FEFF in UTF-8
abbrev pub byte_order_mark : List ℕ
byte_order_mark = 0xEF ∷ 0xBB ∷ 0xBF ∷ []

-- the names of a feed's columns after the first, in the order of a plain record
abbrev pub column_names : Layout → List (List ℕ)
column_names s = codes "id" ∷ s.dimensions ++ s.measures

-- the fields of a record in the order of the schema, in that of a plain record: the texts that are counted stand before the
-- measures
abbrev pub arranged : Layout → List (List ℕ) → List (List ℕ)
arranged s fields = take (2 + number_of_dimensions s) fields
    ++ with_places_first s.text_places (drop (2 + number_of_dimensions s) fields)

-- whether these fields are the names of the columns, in the order of a plain record: `op`, which one byte order mark may
-- precede, and then the names of the others
abbrev pub are_names : Layout → List (List ℕ) → Bool
are_names s fields =
    same_fields fields (codes "op" ∷ column_names s)
    || same_fields fields ((byte_order_mark ++ codes "op") ∷ column_names s)

-- whether a record is the header
abbrev pub is_header : Layout → List (List ℕ) → Bool
is_header s fields = are_names s (arranged s fields)

-- whether a whole number fits 64 bits with its sign
abbrev pub fits_i64 : ℤ → Bool
fits_i64 (pos n) = nat_lt n (2 ^ 63)
fits_i64 (negsuc n) = nat_lt n (2 ^ 63)

-- whether a text is a number: a sign or none, then one ASCII digit or more, with a value that fits 64 bits
abbrev pub is_number : List ℕ → Bool
is_number text =
    nat_lt 0 (length (without_leading_sign text))
    && all_ascii_digits (without_leading_sign text)
    && fits_i64 (signed_digits_value 10 text)

-- the number that a text spells, if it is one
abbrev pub number_of : List ℕ → Option ℤ
number_of text = if is_number text then Some (signed_digits_value 10 text) else None

-- whether a field is null
abbrev pub is_null : List ℕ → Bool
is_null field = bytes_eq field null_text

-- the value of a dimension that a field spells
abbrev pub dimension_of : List ℕ → Option (List ℕ)
dimension_of field = if is_null field then None else Some field

-- the value of a measure that a field spells: null, a number, or nothing lawful
abbrev pub measure_of : List ℕ → Option (Option ℤ)
measure_of field = if is_null field then Some None else option_map Some (number_of field)

-- the fields of a record's dimensions, and those of its measures
abbrev pub dimension_fields : Layout → List (List ℕ) → List (List ℕ)
dimension_fields s fields = take (length s.dimensions) (drop 2 fields)

abbrev pub measure_fields : Layout → List (List ℕ) → List (List ℕ)
measure_fields s fields = drop (2 + length s.dimensions) fields

-- the fact that a record spells, where its measures are lawful
abbrev pub fact_of : Layout → List (List ℕ) → Fact
fact_of s fields = record {
  dims = map dimension_of (dimension_fields s fields);
  measures = filter_map measure_of (measure_fields s fields);
}

-- how a feed of version 2 writes that a field keeps its value: a backslash and an equals sign
abbrev pub keep_text : List ℕ
keep_text = 92 ∷ 61 ∷ []

-- whether a field keeps its value; in version 1 none does
abbrev pub is_keep : Layout → List ℕ → Bool
is_keep s field = may_amend s && bytes_eq field keep_text

-- whether a field after the id keeps its value
abbrev pub keeps_any : Layout → List (List ℕ) → Bool
keeps_any s fields = list_any (is_keep s) (drop 2 fields)

-- what a field says of a dimension: it keeps its value, or puts one
abbrev pub dimension_field_of : Layout → List ℕ → Field (Option (List ℕ))
dimension_field_of s field = if is_keep s field then Keep else Put (dimension_of field)

-- what a field says of a measure: it keeps its value, or puts one, or nothing lawful
abbrev pub measure_field_of : Layout → List ℕ → Option (Field (Option ℤ))
measure_field_of s field = if is_keep s field then Some Keep else option_map Put (measure_of field)

-- the amendment that a record spells, where its measures are lawful
abbrev pub amendment_of : Layout → List (List ℕ) → Partial
amendment_of s fields = record {
  dims = map (dimension_field_of s) (dimension_fields s fields);
  measures = filter_map (measure_field_of s) (measure_fields s fields);
}

-- whether a field spells a lawful value of a measure, or keeps one
abbrev pub is_measure : Layout → List ℕ → Bool
is_measure s field = is_some (measure_field_of s field)

-- the change of a record with a fact or an amendment, or the first fault that holds
abbrev pub unless_at_fault : Result Change LineFault → Layout → List (List ℕ) → Result Change LineFault
unless_at_fault change s fields =
    if not (length fields == width_of s) then Err fault.Fields
    else if not (list_all is_utf8 (drop 1 fields)) then Err fault.Text
    else if length (field_at fields 1) == 0 then Err fault.Id
    else if not (list_all (is_measure s) (measure_fields s fields)) then Err fault.Measure
    else change

-- the insert that a record with lawful fields spells: where the id is new, no field has a value to keep
abbrev pub insert_of : Layout → List (List ℕ) → Result Change LineFault
insert_of s fields =
    if keeps_any s fields then Err fault.Keep
    else Ok (Insert (field_at fields 1) (fact_of s fields))

-- the update that a record with lawful fields spells: an amendment, where it keeps a field
abbrev pub update_of : Layout → List (List ℕ) → Result Change LineFault
update_of s fields =
    if keeps_any s fields then Ok (Amend (field_at fields 1) (amendment_of s fields))
    else Ok (Update (field_at fields 1) (fact_of s fields))

-- the upsert that a record with lawful fields spells: as in an insert, no field has a value to keep
abbrev pub upsert_of : Layout → List (List ℕ) → Result Change LineFault
upsert_of s fields =
    if keeps_any s fields then Err fault.Keep
    else Ok (Upsert (field_at fields 1) (fact_of s fields))

-- the change of a record of which the id alone counts, or the first fault that holds; fields after the id aren't looked at
abbrev pub unless_id_at_fault : Change → Layout → List (List ℕ) → Result Change LineFault
unless_id_at_fault change s fields =
    if not ((length fields == 2) || (length fields == width_of s)) then Err fault.Fields
    else if not (is_utf8 (field_at fields 1)) then Err fault.Text
    else if length (field_at fields 1) == 0 then Err fault.Id
    else Ok change

-- the delete that a record spells, and the removal, or the first fault that holds
abbrev pub delete_of : Layout → List (List ℕ) → Result Change LineFault
delete_of s fields = unless_id_at_fault (Delete (field_at fields 1)) s fields

abbrev pub remove_of : Layout → List (List ℕ) → Result Change LineFault
remove_of s fields = unless_id_at_fault (Remove (field_at fields 1)) s fields

-- the change that a data record spells, or its first fault: the operation is `I`, `U` or `D`, and where columns are known
-- by name it may be `P`, which puts a fact whether or not the id is present, or `R`, which removes what is there
abbrev pub change_of : Layout → List (List ℕ) → Result Change LineFault
change_of s fields =
    if bytes_eq (field_at fields 0) (codes "I") then unless_at_fault (insert_of s fields) s fields
    else if bytes_eq (field_at fields 0) (codes "U") then unless_at_fault (update_of s fields) s fields
    else if bytes_eq (field_at fields 0) (codes "D") then delete_of s fields
    else if may_upsert s && bytes_eq (field_at fields 0) (codes "P") then unless_at_fault (upsert_of s fields) s fields
    else if may_upsert s && bytes_eq (field_at fields 0) (codes "R") then remove_of s fields
    else Err fault.Op
