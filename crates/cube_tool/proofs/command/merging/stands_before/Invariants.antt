use Rattle.std.proofs.Common.{◌<◌, ℕ, get_or}
use Rattle.cube_tool.specs.MergingCubes.{AreOneCube}
use Rattle.cube_tool.specs.declared.command.merging.NamedCube.{NamedCube}
use Rattle.cube_tool.proofs.command.merging.stands_before.Given as goal

abbrev pub invariant-loop-earlier : goal.invariant-loop-earlier
invariant-loop-earlier l =
    (k : ℕ) → k < l.earlier → ((d : NamedCube) → AreOneCube (get_or l.cubes k d) (get_or l.cubes l.place d)) → ⊥
