use Rattle.std.proofs.Common.{arith}
use Rattle.cube_cells.specs.Levels.{AddsInLevel}
use Rattle.cube_cells.proofs.Cells.TableLaws.{AllZip-ChangesFirst}
use Rattle.cube_cells.proofs.cube.walk.gather_in_sets.Goals as goal

pub returns : goal.returns
returns g c = AllZip-ChangesFirst (AddsInLevel c.args.codes.now c.args.values.now) c.args.levels.now
    c.loop-place.levels c.loop-place.place (omega (
      arith,
      c.loop-place-test.false,
      c.loop-place.invariant.same_length,
    )) c.loop-place.invariant
