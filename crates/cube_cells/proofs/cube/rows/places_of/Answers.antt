use Rattle.std.proofs.Common.{◌+◌, ◌<◌, ◌≡◌, ◌++◌, ◌∙◌, ap, arith, length, sym, take}
use Rattle.std.specs.Prelude.{filter}
use Rattle.std.proofs.lemmas.List.Elements.{filter-append}
use Rattle.cube_cells.specs.Coded.{CodedCells}
use Rattle.cube_cells.specs.Levels.{cells_of}
use Rattle.cube_cells.specs.Rows.{are_wanted_codes}
use Rattle.cube_cells.specs.Tally.{Tally}
use Rattle.cube_cells.specs.declared.cube.codes.Codes.{Codes}
use Rattle.cube_cells.specs.declared.cube.levels.Level.{Level}
use Rattle.cube_cells.proofs.Cells.TableLaws.{cells_of-take_more}
use Rattle.cube_cells.proofs.cube.rows.places_of.Goals as goal

pub loop-level-preserved : goal.loop-level-preserved
loop-level-preserved c =
    let i = c.loop-level.level-index in
    let levels = c.args.levels.now in
    let level = c.level-item.result in
    let inside : i < length levels = omega (arith, c.loop-level-test.true) in
    let wanted = filter (λ (cell : Codes × Tally). are_wanted_codes c.args.wants.now cell.0.codes) in
    let more : cells_of (take (i + 1) levels) ≡ cells_of (take i levels) ++ level.cells.entries =
    cells_of-take_more levels i level inside
    ∙ ap (λ (l : Level _). cells_of (take i levels) ++ l.cells.entries) (sym c.level-item.is) in
    record {
      cells_are = c.in_ok-push_places.ensures.cells
          ∙ ap (λ (cells : CodedCells). cells ++ wanted level.cells.entries) c.loop-level.invariant.cells_are
          ∙ sym (filter-append (λ (cell : Codes × Tally). are_wanted_codes c.args.wants.now cell.0.codes)
          (cells_of (take i levels)) level.cells.entries)
          ∙ ap wanted (sym more);
      ranks_are = c.in_ok-push_places.ensures.ranks c.loop-level.invariant.ranks_are;
    }
