-- When the fields of a record of the right width spell a change,
-- and what is wrong with them else (this project's choice).
use Rattle.std.specs.Prelude.{◌==◌, ◌&&◌, ℕ, ℤ, Bool, not, List, length, drop, Option, Some, is_some, option_map}
use Rattle.std.specs.Prelude.{Result, Ok, Err, if◌then◌else◌}
use Rattle.std.specs.Str.{bytes_eq, is_utf8}
use Rattle.std.specs.List.{list_all, filter_map}
use Rattle.cube_core.specs.Layout.{Layout}
use Rattle.cube_core.specs.Items.{width_of, field_at, keep_text, dimension_of, measure_of, dimension_fields}
use Rattle.cube_core.specs.Items.{measure_fields, insert_of, update_of, upsert_of}
use Rattle.cube_core.specs.declared.partial.Field.{Field}
use Rattle.cube_core.specs.declared.partial.Field.TheVariants.{Keep, Put}
use Rattle.cube_core.specs.declared.partial.Partial.{Partial}
use Rattle.cube_core.specs.declared.change.Change.{Change}
use Rattle.cube_core.specs.declared.change.LineFault.{LineFault}
use Rattle.cube_core.specs.declared.change.LineFault.TheVariants as fault
use Rattle.cube_feed.specs.declared.line.Operation.{Operation}
use Rattle.cube_feed.specs.declared.line.Operation.TheVariants.{Insert, Update, Upsert}

-- whether a field is UTF-8 and may be an id
abbrev pub is_sound_id : List ℕ → Bool
is_sound_id field = is_utf8 field && not (length field == 0)

-- whether a field is UTF-8 and spells a value
abbrev pub is_sound : {A : Type 0} → (List ℕ → Option A) → List ℕ → Bool
is_sound spells field = is_utf8 field && is_some (spells field)

-- whether the fields after the operation of a record have no fault but perhaps their number
abbrev pub are_sound : {D M : Type 0} → (List ℕ → Option D) → (List ℕ → Option M) → Layout → List (List ℕ) → Bool
are_sound dimension measure s fields =
    is_sound_id (field_at fields 1)
    && list_all (is_sound dimension) (dimension_fields s fields)
    && list_all (is_sound measure) (measure_fields s fields)

-- the first fault of fields that aren't sound
abbrev pub put_fault : List (List ℕ) → LineFault
put_fault fields =
    if not (list_all is_utf8 (drop 1 fields)) then fault.Text
    else if length (field_at fields 1) == 0 then fault.Id
    else fault.Measure

-- what is read of a record, its id with its dimensions and its measures
abbrev pub listed : {D M : Type 0} → List D → List M → Result (List ℕ) LineFault
    → Result (List ℕ × List D × List M) LineFault
listed dimensions measures (Ok id) = Ok (id, dimensions, measures)
listed dimensions measures (Err why) = Err why

-- what is read of a record with an amendment
abbrev pub part_listed : Result (List ℕ × Partial) LineFault
    → Result (List ℕ × List (Field (Option (List ℕ))) × List (Field (Option ℤ))) LineFault
part_listed (Ok amendment) = Ok (amendment.0, amendment.1.dims, amendment.1.measures)
part_listed (Err why) = Err why

-- what a feed of version 2 puts in a dimension and in a measure
abbrev pub dimension_put : List ℕ → Option (Field (Option (List ℕ)))
dimension_put text = if bytes_eq text keep_text then Some Keep else option_map Put (Some (dimension_of text))

abbrev pub measure_put : List ℕ → Option (Field (Option ℤ))
measure_put text = if bytes_eq text keep_text then Some Keep else option_map Put (measure_of text)

-- what reading a record gives: its id, its dimensions and its measures, or its first fault
abbrev pub read_of : {D M : Type 0} → (List ℕ → Option D) → (List ℕ → Option M) → Layout → List (List ℕ)
    → Result (List ℕ × List D × List M) LineFault
read_of dimension measure s fields =
    if not (length fields == width_of s) then Err fault.Fields
    else if not (are_sound dimension measure s fields) then Err (put_fault fields)
    else Ok (
      field_at fields 1,
      filter_map dimension (dimension_fields s fields),
      filter_map measure (measure_fields s fields),
    )

-- what a record says whose id alone counts: a change, where its id was read, or its first fault
abbrev pub alone : Result (List ℕ) LineFault → Change → Result Change LineFault
alone (Ok id) change = Ok change
alone (Err why) change = Err why

-- the change that a record with lawful fields spells, by its operation
abbrev pub change_by : Operation → Layout → List (List ℕ) → Result Change LineFault
change_by Insert s fields = insert_of s fields
change_by Update s fields = update_of s fields
change_by Upsert s fields = upsert_of s fields
