use Rattle.std.proofs.Common.{◌+◌, ◌≡◌, ◌++◌, ◌∙◌, ap, arith, length, length-append, sym, take}
use Rattle.cube_cells.specs.Coded.{CodedCells}
use Rattle.cube_cells.specs.Levels.{cells_of}
use Rattle.cube_cells.specs.declared.cube.levels.Level.{Level}
use Rattle.cube_cells.proofs.Cells.TableLaws.{cells_of-take_more}
use Rattle.cube_cells.proofs.cube.levels.count_in.Goals as goal

pub loop-level-preserved : goal.loop-level-preserved
loop-level-preserved g c =
    let i = c.loop-level.level-index in
    let levels = c.args.levels.now in
    let level = c.level-item.result in
    let more : cells_of (take (i + 1) levels) ≡ cells_of (take i levels) ++ level.cells.entries =
    cells_of-take_more levels i level (omega (arith, c.loop-level-test.true))
    ∙ ap (λ (l : Level _). cells_of (take i levels) ++ l.cells.entries) (sym c.level-item.is) in
    omega (
      arith,
      c.loop-level.invariant,
      ap (λ (cells : CodedCells). length cells) more,
      length-append (cells_of (take i levels)) level.cells.entries,
    )
