use Rattle.cube_core.specs.Query.{rolled_up}
use Rattle.cube_build.proofs.WholeLaws.{HasNoRowBelow}
use Rattle.cube_build.proofs.joined.row_above.Given as goal

abbrev pub invariant-loop-part : goal.invariant-loop-part
invariant-loop-part g l = HasNoRowBelow g.P.HoldsCube.lattice l.part (rolled_up l.dim l.key) l.parts
