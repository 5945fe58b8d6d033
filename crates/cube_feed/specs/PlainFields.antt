-- The fields of a plain record, one by one (this project's choice).
use Rattle.std.specs.Prelude.{ℕ, Bool, List, [], Option, if◌then◌else◌}
use Rattle.std.specs.Str.{bytes_eq}
use Rattle.cube_core.specs.Items.{is_keep}
use Rattle.cube_core.specs.Layout.{Layout, decimals_of}
use Rattle.cube_core.specs.Plain.{first_of, in_units}
use Rattle.cube_core.specs.Takes.{null_text}

-- the plain field of a dimension, where it is known whether the field is null
abbrev pub dimension_from : Layout → Bool → Option ℕ → List ℕ → List ℕ
dimension_from s null first field =
    if is_keep s field then field else if null then null_text else first_of first field

-- the plain field of a measure of this number, where it is known whether the field is null
abbrev pub measure_from : Layout → ℕ → Bool → ℕ → List ℕ → List ℕ
measure_from s m null point field =
    if is_keep s field then field
    else if null then null_text
    else if bytes_eq field null_text then []
    else in_units (decimals_of s m) point field
