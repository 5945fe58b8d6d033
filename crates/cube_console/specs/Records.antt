-- The records of a text of CSV, byte by byte, and that a reader of csv says the same.
use Rattle.std.specs.Prelude.{◌==◌, ◌++◌, ◌∷◌, [], Bool, true, false, ℕ, List, if◌then◌else◌}
use Rattle.csv.specs.Records.{fields_of}
use Rattle.cube_console.specs.Ends.{is_line_end}
use Rattle.cube_console.specs.declared.place.Place.{Place}
use Rattle.cube_console.specs.declared.place.Place.TheVariants as at
use Rattle.cube_console.specs.declared.views.records.Effect.{Effect}
use Rattle.cube_console.specs.declared.views.records.Effect.TheVariants as effect

-- where a text stands behind a byte that is in no quotes and begins none, and what the byte does (RFC 4180)
abbrev pub plain_step : ℕ → Place × Effect
plain_step b =
    if b == 44 then (at.Field, effect.EndField)
    else if is_line_end b then (at.Record, effect.EndRecord)
    else (at.Plain, effect.Copy)

-- the same of a byte that may begin a quoted field (RFC 4180)
abbrev pub open_step : ℕ → Place × Effect
open_step b = if b == 34 then (at.Quoted, effect.Skip) else plain_step b

-- the same of a byte at a place (RFC 4180)
abbrev pub step : Place → ℕ → Place × Effect
step at.Record b = if is_line_end b then (at.Record, effect.Skip) else open_step b
step at.Field b = open_step b
step at.Plain b = plain_step b
step at.Quoted b = if b == 34 then (at.Quote, effect.Skip) else (at.Quoted, effect.Copy)
step at.Quote b = if b == 34 then (at.Quoted, effect.Copy) else plain_step b

-- how far the reading of a text has come: where it stands, the fields of the record, the bytes of the next field
pub record Reading : Type 0 where
  pub place : Place
  pub fields : List (List ℕ)
  pub field : List ℕ

-- a text that begins
abbrev pub beginning : Reading
beginning = record { place = at.Record; fields = []; field = [] }

-- the fields of the record behind what a byte does
abbrev pub fields_after : Effect → List (List ℕ) → List ℕ → List (List ℕ)
fields_after effect.Skip fields field = fields
fields_after effect.Copy fields field = fields
fields_after effect.EndField fields field = fields ++ field ∷ []
fields_after effect.EndRecord fields field = fields ++ field ∷ []

-- the bytes of the next field behind it
abbrev pub field_after : Effect → ℕ → List ℕ → List ℕ
field_after effect.Skip b field = field
field_after effect.Copy b field = field ++ b ∷ []
field_after effect.EndField b field = []
field_after effect.EndRecord b field = []

-- a byte ends a record
abbrev pub ends : Effect → Bool
ends effect.Skip = false
ends effect.Copy = false
ends effect.EndField = false
ends effect.EndRecord = true

-- the reading of one more byte
abbrev pub read_byte : Reading → ℕ → Reading
read_byte r b = record {
  place = (step r.place b).0;
  fields = fields_after (step r.place b).1 r.fields r.field;
  field = field_after (step r.place b).1 b r.field;
}

-- whether a byte ends the record
abbrev pub ends_record : Reading → ℕ → Bool
ends_record r b = ends (step r.place b).1

-- the reading whose record is taken
abbrev pub cleared : Reading → Reading
cleared r = record r { fields = [] }
