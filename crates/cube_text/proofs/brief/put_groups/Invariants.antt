use Rattle.std.proofs.Common.{◌≡◌, ◌++◌, map, take}
use Rattle.cube_text.specs.Brief.{brief_text, rows_in, rows_of}
use Rattle.cube_text.specs.Shown.{AreShown}
use Rattle.cube_text.proofs.brief.put_groups.Given as goal

abbrev pub invariant-loop-group : goal.invariant-loop-group
invariant-loop-group g l = AreShown l.cells.dictionaries l.shown
    → l.text.items ≡ l.initial.text.items
    ++ brief_text l.cells.dictionaries (rows_of (take l.group-index (map (rows_in l.bytes) l.groups)))
