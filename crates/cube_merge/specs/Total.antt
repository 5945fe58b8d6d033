-- A sum of any size, in parts that fit their types (this project's choice).
use Rattle.std.specs.Prelude.{◌≡◌, ◌*◌, ◌^◌, ℤ, pos, ◌+ℤ◌}
use Rattle.cube_merge.specs.declared.total.Total.{Total}

-- these parts are those of a sum: it is `low`, and 2 to the power 128 times `ups` less `downs`
abbrev pub IsTotal : ℤ → Total → Type 0
IsTotal sum t = sum +ℤ pos (t.downs * 2 ^ 128) ≡ t.low +ℤ pos (t.ups * 2 ^ 128)
