-- The changes of one source among the records of a session (this project's choice).
use Rattle.std.specs.Prelude.{◌==◌, ℕ, Bool, false, List, map, filter, drop}
use Rattle.std.specs.Option.{option_map_or}
use Rattle.cube_core.specs.Items.{field_at}
use Rattle.cube_live.specs.Request.{source_of}

-- whether a record of a session changes this source: its first field names it
abbrev pub changes_source : ℕ → List (List ℕ) → Bool
changes_source source fields = option_map_or (λ named. named == source) (source_of (field_at fields 0)) false

-- the data records that a session has of a source: its records that change it, without the field that names it
abbrev pub records_of_source : ℕ → List (List (List ℕ)) → List (List (List ℕ))
records_of_source source records = map (drop 1) (filter (changes_source source) records)
