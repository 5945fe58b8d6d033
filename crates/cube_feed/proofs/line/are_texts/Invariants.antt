use Rattle.std.proofs.Common.{◌≡◌, drop}
use Rattle.std.specs.Str.{is_utf8}
use Rattle.std.specs.List.{list_all}
use Rattle.cube_feed.proofs.line.are_texts.Given as goal

abbrev pub invariant-loop-place : goal.invariant-loop-place
invariant-loop-place l = list_all is_utf8 (drop l.place l.fields) ≡ list_all is_utf8 (drop 1 l.fields)
