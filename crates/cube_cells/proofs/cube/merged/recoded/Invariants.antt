use Rattle.std.proofs.Common.{◌≡◌, take}
use Rattle.cube_cells.specs.Merged.{recoded_codes}
use Rattle.cube_cells.proofs.cube.merged.recoded.Given as goal

abbrev pub invariant-loop-dimension : goal.invariant-loop-dimension
invariant-loop-dimension l = l.recoded ≡ recoded_codes (take l.dimension l.columns) l.codes.codes
