use Rattle.cube_build.proofs.WholeLaws.{AreRowsOfFirst}
use Rattle.cube_build.proofs.joined.rows_of_parts.Given as goal

abbrev pub invariant-loop-part : goal.invariant-loop-part
invariant-loop-part g l =
    AreRowsOfFirst g.P.HoldsCube.lattice (g.Q.AsksCube.test l.question) l.part l.parts l.rows.items
