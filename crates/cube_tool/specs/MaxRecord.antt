-- How many bytes a record of a feed may have, as a word names it, or where no word does (this project's choice).
use Rattle.std.specs.Prelude.{◌==◌, ◌&&◌, ◌-◌, ◌*◌, ◌^◌, nat_le, nat_lt, ℕ, List, length, take, get_or, Option, Some}
use Rattle.std.specs.Prelude.{None, option_and_then, is_some, if◌then◌else◌}
use Rattle.cube_core.specs.Layout.{Layout}
use Rattle.cube_live.specs.Request.{count_of}

-- the last byte of a word, 0 where it has none
abbrev pub last_byte : List ℕ → ℕ
last_byte word = get_or word (length word - 1) 0

-- how many bytes the unit of this letter has: `K`, `M` and `G` are 2 to the powers 10, 20 and 30
abbrev pub unit_of : ℕ → ℕ
unit_of letter =
    if letter == 75 then 1024 else if letter == 77 then 1048576 else if letter == 71 then 1073741824 else 1

-- what stands before the unit
abbrev pub before_unit : List ℕ → List ℕ
before_unit word = if nat_lt 1 (unit_of (last_byte word)) then take (length word - 1) word else word

-- a number of bytes, where it is from 1 to 2 to the power 40
abbrev pub lawful_size : ℕ → Option ℕ
lawful_size bytes = if nat_le 1 bytes && nat_le bytes (2 ^ 40) then Some bytes else None

-- the number of bytes that a word names: a number in digits alone with no leading zero, and its unit, if any
abbrev pub size_named : List ℕ → Option ℕ
size_named word = option_and_then (λ count. lawful_size (count * unit_of (last_byte word))) (count_of (before_unit word))

-- how many bytes a record may have: as many as are named, and else 2 to the power 20 where columns are known by name,
-- and no bound where they aren't
abbrev pub record_bound : Layout → Option ℕ → Option ℕ
record_bound s (Some most) = Some most
record_bound s None = if is_some s.columns then Some 1048576 else None
