-- What a schema takes: the facts that have its shape, and the changes of such facts (this project's choice).
use Rattle.std.specs.Prelude.{◌==◌, ◌&&◌, ℕ, Bool, true, not, List, [], ◌∷◌, length, Option, Some, None, is_some}
use Rattle.std.specs.Str.{bytes_eq}
use Rattle.std.specs.List.{list_all}
use Rattle.cube_core.specs.Layout.{Layout}
use Rattle.cube_core.specs.declared.fact.Fact.{Fact}
use Rattle.cube_core.specs.declared.change.Change.{Change}
use Rattle.cube_core.specs.declared.change.Change.TheVariants.{Insert, Update, Amend, Upsert, Delete, Remove}
use Rattle.cube_core.specs.declared.partial.Field.{Field}
use Rattle.cube_core.specs.declared.partial.Field.TheVariants.{Keep, Put}
use Rattle.cube_core.specs.declared.partial.Partial.{Partial}

-- how a feed writes null, and a report null and ALL: a backslash and a capital N
abbrev pub null_text : List ℕ
null_text = 92 ∷ 78 ∷ []

-- whether a dimension may have this value: any text but the one that stands for null
abbrev pub is_dimension_value : Option (List ℕ) → Bool
is_dimension_value None = true
is_dimension_value (Some text) = not (bytes_eq text null_text)

-- whether a fact has a lawful value or null for each dimension, and a value or null for each measure
abbrev pub fits : Layout → Fact → Bool
fits s fact =
    (length fact.dims == length s.dimensions)
    && (length fact.measures == length s.measures)
    && list_all is_dimension_value fact.dims

-- whether a field of an amendment keeps its value or puts one that a dimension may have
abbrev pub puts_dimension_value : Field (Option (List ℕ)) → Bool
puts_dimension_value Keep = true
puts_dimension_value (Put value) = is_dimension_value value

-- whether an amendment has a field for each dimension, where it puts lawful values alone, and one for each measure
abbrev pub fits_part : Layout → Partial → Bool
fits_part s part =
    (length part.dims == length s.dimensions)
    && (length part.measures == length s.measures)
    && list_all puts_dimension_value part.dims

-- whether a schema's feeds may amend: those of version 2
abbrev pub may_amend : Layout → Bool
may_amend s = s.version == 2

-- whether a schema's feeds may upsert and remove: those whose columns are known by name
abbrev pub may_upsert : Layout → Bool
may_upsert s = is_some s.columns

-- whether an id may be given to a fact: any text but the empty one
abbrev pub is_id : List ℕ → Bool
is_id id = not (length id == 0)

-- whether a schema takes a change: its id is lawful, its fact or its amendment, where there is one, fits,
-- and its feeds may amend, where it is an amendment, or upsert and remove, where it is an upsert or a removal
abbrev pub takes : Layout → Change → Bool
takes s (Insert id fact) = is_id id && fits s fact
takes s (Update id fact) = is_id id && fits s fact
takes s (Amend id part) = may_amend s && is_id id && fits_part s part
takes s (Upsert id fact) = may_upsert s && is_id id && fits s fact
takes s (Delete id) = is_id id
takes s (Remove id) = may_upsert s && is_id id
