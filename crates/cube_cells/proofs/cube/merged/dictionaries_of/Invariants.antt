use Rattle.std.proofs.Common.{◌≡◌}
use Rattle.cube_cells.specs.Merged.{dictionaries_of}
use Rattle.cube_cells.proofs.cube.merged.dictionaries_of.Given as goal

abbrev pub invariant-loop-column : goal.invariant-loop-column
invariant-loop-column l = l.dictionaries.items ≡ dictionaries_of l.yielded
