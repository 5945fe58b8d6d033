use Rattle.cube_cells.specs.Tally.{Tally}
use Rattle.cube_cells.specs.declared.cube.codes.Codes.{Codes}
use Rattle.cube_cells.proofs.Filling.FillLaws.{IsFillingSet-more}
use Rattle.cube_cells.proofs.cube.fill.fill_set.Goals as goal

pub loop-codes-preserved : goal.loop-codes-preserved
loop-codes-preserved g c =
    let cell : Codes × Tally = (c.in-Some.codes.now, c.in-Some.cell.now) in
    let filling = rw c.in-Some.ensures.steps at c.loop-codes.invariant.2 in
    let merges = rw c.kept.ensures at c.in_ok-merge_at.ensures.merges in (
      tt,
      tt,
      IsFillingSet-more c.args.set c.args.finer.now.entries c.next.new.self c.args.cells.now.entries
          c.loop-codes.cells.entries c.merge_at.new.cells.entries cell filling merges c.in_ok-merge_at.ensures.apart,
    )
