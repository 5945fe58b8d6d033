use Rattle.std.proofs.Common.{◌≡◌, ◌++◌, take, drop}
use Rattle.std.specs.Fmt.{take_chars}
use Rattle.cube_feed.proofs.plain.first_chars.Given as goal

abbrev pub invariant-loop-place : goal.invariant-loop-place
invariant-loop-place l = take l.place l.text ++ take_chars l.left (drop l.place l.text) ≡ take_chars l.count l.text
