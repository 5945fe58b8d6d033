use Rattle.std.proofs.Common.{◌≡◌, map, take}
use Rattle.cube_core.specs.Merged.{column}
use Rattle.cube_merge.specs.Joint.{rows_of}
use Rattle.cube_merge.specs.Made.{without_values}
use Rattle.cube_merge.proofs.step.put_column.Given as goal

abbrev pub invariant-loop-place : goal.invariant-loop-place
invariant-loop-place g l =
    l.answers.items ≡ map without_values (column l.at (rows_of l.inputs (take l.place-index l.places)))
