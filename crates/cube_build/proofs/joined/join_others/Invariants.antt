use Rattle.cube_build.proofs.WholeLaws.{AreCellsOfFirst}
use Rattle.cube_build.proofs.joined.join_others.Given as goal

abbrev pub invariant-loop-part : goal.invariant-loop-part
invariant-loop-part g l = AreCellsOfFirst g.P.HoldsCube.lattice l.part l.parts l.cells
