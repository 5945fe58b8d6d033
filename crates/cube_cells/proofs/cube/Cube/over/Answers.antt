use Rattle.cube_core.specs.Layout.{cube_schema}
use Rattle.cube_cells.specs.Levels.{IsLeveled, cells_of}
use Rattle.cube_cells.proofs.Cells.NewLaws.{IsNewCube, IsNewCube-AreNewCells}
use Rattle.cube_cells.proofs.Cells.TableLaws.{AreLevelsOf-IsNewLevel, AreNewCells-IsNewLevel}
use Rattle.std.proofs.Common.{refl}
use Rattle.cube_cells.proofs.cube.Cube.over.Goals.{In_ok-levels}
use Rattle.cube_cells.proofs.cube.Cube.over.Given as over
use Rattle.cube_cells.proofs.cube.Cube.over.Goals as goal

made : (g : over.Over) (c : In_ok-levels g)
    → IsNewCube c.args.schema.now c.args.sets.items c.in_ok-dictionaries.dictionaries.items
    (cells_of c.in_ok-levels.levels.items)
made g c =
    let texts = rw (c.dimensions.ensures.value, c.in_ok-schema.ensures) at c.in_ok-dictionaries.ensures in
    let new =
    rw (c.measures.ensures.value, c.in_ok-schema.ensures, c.deref.ensures.value) at c.in_ok-levels.ensures.new in
    let cells = AreNewCells-IsNewLevel _ c.args.sets.items c.in_ok-levels.levels.items c.requires.ascending new in
    IsNewCube-AreNewCells c.args.schema.now c.args.sets.items c.in_ok-dictionaries.dictionaries.items _
    (cells_of c.in_ok-levels.levels.items)
    (rw c.in_ok-schema.ensures at c.dimensions.ensures.schema) c.requires.within c.requires.ascending texts refl cells

leveled : (g : over.Over) (c : In_ok-levels g)
    → IsLeveled (cube_schema c.args.schema.now) c.args.sets.items 0 c.in_ok-dictionaries.dictionaries.items
    c.in_ok-levels.levels.items
leveled g c = record {
  coded = (made g c).coded;
  tables = AreLevelsOf-IsNewLevel _ c.args.sets.items c.in_ok-levels.levels.items
      (rw c.deref.ensures.value at c.in_ok-levels.ensures.new);
}

pub invariant_of-result : goal.invariant_of-result
invariant_of-result g c =
    let at = (goal.at.invariant_of-result g c).In_ok-levels in rw at.in_ok-schema.ensures (leveled g at)

pub returns-clause-new : goal.returns-clause-new
returns-clause-new g c =
    let at = (goal.at.returns-clause-new g c).In_ok-levels in rw at.in_ok-schema.ensures (made g at).new

pub returns-clause-cube : goal.returns-clause-cube
returns-clause-cube g c =
    let at = (goal.at.returns-clause-cube g c).In_ok-levels in rw at.in_ok-schema.ensures (made g at).cube
