use Rattle.std.proofs.Common.{◌∷◌, Contains}
use Rattle.cube_cells.specs.Fill.{IsFiner}
use Rattle.cube_cells.proofs.cube.fill.smallest_finer.Given as goal

abbrev pub invariant-loop-level : goal.invariant-loop-level
invariant-loop-level g l = Contains (l.finest ∷ l.levels) l.smallest × IsFiner l.smallest.set l.set
