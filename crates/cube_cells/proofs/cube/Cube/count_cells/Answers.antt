use Rattle.std.proofs.Common.{◌≡◌, ◌∙◌, length, sym}
use Rattle.std.specs.Map.{keys_of}
use Rattle.cube_cells.specs.Levels.{cells_of}
use Rattle.cube_cells.proofs.Rows.CountLaws.{AreKeysOver-IsCubeOf, length-keys_of-decoded}
use Rattle.cube_cells.proofs.Rows.RowLaws.{IsDistinct-IsCoded}
use Rattle.cube_cells.proofs.cube.Cube.count_cells.Goals as goal

pub returns : goal.returns
returns g c = λ facts cube.
    let cells = cells_of c.self.inside.levels.items in
    let counted : c.in_ok-number.number ≡ length cells = rw c.deref.ensures.value at c.in_ok-number.ensures in
    record {
      keys = keys_of c.args.self.now.cells;
      are = AreKeysOver-IsCubeOf c.args.self.now facts (rw (← c.self.view_is) (IsDistinct-IsCoded c.self.invariant.coded))
          cube;
      many = rw (← c.self.view_is)
          (counted ∙ sym (length-keys_of-decoded c.self.inside.dictionaries.items cells));
    }
