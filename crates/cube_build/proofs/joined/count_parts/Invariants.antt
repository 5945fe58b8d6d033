use Rattle.cube_build.proofs.WholeLaws.{HaveCellsOfFirst}
use Rattle.cube_build.proofs.joined.count_parts.Given as goal

abbrev pub invariant-loop-part : goal.invariant-loop-part
invariant-loop-part g l = HaveCellsOfFirst g.P.HoldsCube.lattice l.part l.parts l.number
