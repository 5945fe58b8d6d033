-- The share of the feeds that a word names, as `J/N` (this project's choice).
use Rattle.std.specs.Prelude.{◌==◌, ◌&&◌, ◌-◌, nat_le, ℕ, Bool, List, Option, Some, None, option_and_then}
use Rattle.std.specs.Prelude.{if◌then◌else◌}
use Rattle.std.specs.List.{list_any, before_first, after_first}
use Rattle.cube_core.specs.declared.shard.Shard.{Shard}
use Rattle.cube_live.specs.Request.{count_of}

-- whether a byte is a slash
abbrev pub is_slash : ℕ → Bool
is_slash byte = byte == 47

-- the bytes before the first slash and those after it, where there is one
abbrev pub halves_of : List ℕ → Option (List ℕ × List ℕ)
halves_of word = if list_any is_slash word then Some (before_first is_slash word, after_first is_slash word) else None

-- the share that is so many-th of so many, where the one is from 1 to the other, and that 65536 at most
abbrev pub shard_numbered : ℕ → ℕ → Option Shard
shard_numbered place count =
    if nat_le 1 place && nat_le place count && nat_le count 65536
    then Some (record { place = place - 1; count = count }) else None

-- the share that a word names: its place, counted from 1, a slash, and how many there are,
-- each in digits alone with no leading zero
abbrev pub shard_named : List ℕ → Option Shard
shard_named word =
    option_and_then (λ (halves : List ℕ × List ℕ).
    option_and_then (λ place. option_and_then (shard_numbered place) (count_of halves.1)) (count_of halves.0))
    (halves_of word)
