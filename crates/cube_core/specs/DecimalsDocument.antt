-- What the table `decimals` of a schema's document says (TOML 1.1; this project's choice of the keys).
use Rattle.std.specs.Prelude.{◌&&◌, ℕ, pos, Bool, nat_le, is_some, List, [], Option, Some, None}
use Rattle.std.specs.Prelude.{if◌then◌else◌}
use Rattle.std.specs.List.{list_all, filter_map}
use Rattle.toml.specs.Data.{Data, integer, table, Members}
use Rattle.cube_core.specs.FeedDocument.{has_only, if_there}

-- the number of digits behind a point that a value is: a whole number from 0 to 18
abbrev pub digits_value : Data → Option ℕ
digits_value (integer (pos n)) = if nat_le n 18 then Some n else None
digits_value _ = None

-- how many digits a measure may have behind a point, by the table `decimals`: it takes no point where it has no key
-- there
abbrev pub digits_of_name : Members → List ℕ → Option (Option ℕ)
digits_of_name decimals name = if_there digits_value name decimals

-- whether a table `decimals` is right: it names measures alone, and each has a number of digits
abbrev pub is_decimals_table : List (List ℕ) → Members → Bool
is_decimals_table measures decimals =
    has_only measures decimals && list_all (λ name. is_some (digits_of_name decimals name)) measures

-- how many digits each measure may have behind a point, as a value at `decimals` says, where it is right
abbrev pub decimals_of_table : List (List ℕ) → Data → Option (List (Option ℕ))
decimals_of_table measures (table decimals) =
    if is_decimals_table measures decimals then Some (filter_map (digits_of_name decimals) measures) else None
decimals_of_table measures _ = None

-- the same of what stands at `decimals`: where nothing does, no measure takes a point
abbrev pub decimals_of_value : List (List ℕ) → Option Data → Option (List (Option ℕ))
decimals_of_value measures None = Some []
decimals_of_value measures (Some value) = decimals_of_table measures value
