use Rattle.std.proofs.Common.{◌≡◌, ◌++◌, ◌≤◌, length}
use Rattle.std.specs.Prelude.{slice_range}
use Rattle.std.specs.List.{list_all, filter_map}
use Rattle.cube_feed.specs.SoundFields.{is_sound}
use Rattle.cube_feed.proofs.line.read_values.Given as goal

abbrev pub invariant-loop-place : goal.invariant-loop-place
invariant-loop-place g l =
    (l.end ≤ length l.fields)
    × (list_all (is_sound g.T.Spelled.spells) (slice_range l.fields l.place l.end)
    ≡ list_all (is_sound g.T.Spelled.spells) (slice_range l.fields l.initial.start l.end))
    × (g.L.SpelledList.values l.values ++ filter_map g.T.Spelled.spells (slice_range l.fields l.place l.end)
    ≡ filter_map g.T.Spelled.spells (slice_range l.fields l.initial.start l.end))
