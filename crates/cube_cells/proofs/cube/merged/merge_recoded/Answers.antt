use Rattle.std.proofs.Common.{◌≡◌, length}
use Rattle.std.proofs.lemmas.List.Elements.{All-head, All-tail}
use Rattle.cube_cells.specs.Fill.{finest_set}
use Rattle.cube_cells.specs.Merged.{recoded, recoded_cells}
use Rattle.cube_cells.specs.Tally.{Tally}
use Rattle.cube_cells.specs.Walk.{key_in}
use Rattle.cube_cells.specs.declared.cube.codes.Codes.{Codes}
use Rattle.cube_cells.proofs.Filling.FillLaws.{IsFillingSet-more}
use Rattle.cube_cells.proofs.cube.merged.merge_recoded.Goals as goal

pub loop-codes-preserved : goal.loop-codes-preserved
loop-codes-preserved g c =
    let columns = c.args.columns.now in
    let cell : Codes × Tally = (recoded columns c.in-Some.codes, c.in-Some.cell) in
    let left = recoded_cells columns c.next.new.self in
    let P : Codes × Tally → Type 0 = λ cell. key_in cell.0 (finest_set (length columns)) ≡ cell.0 in
    let filling = rw c.in-Some.ensures.steps at c.loop-codes.invariant.2 in
    let own = rw c.in-Some.ensures.steps at c.loop-codes.invariant.3 in
    let merges = rw c.recoded.ensures at c.in_ok-merge_own.ensures.merges in (
      tt,
      tt,
      IsFillingSet-more (finest_set (length columns)) (recoded_cells columns c.args.more.entries) left
          c.args.cells.now.entries c.loop-codes.cells.entries c.merge_own.new.cells.entries cell filling
          (rw (All-head P cell left own) merges) c.in_ok-merge_own.ensures.apart,
      All-tail P cell left own,
    )

pub merge_own-requires : goal.merge_own-requires
merge_own-requires g c =
    let columns = c.args.columns.now in
    let cell : Codes × Tally = (recoded columns c.in-Some.codes, c.in-Some.cell) in
    let filling = rw c.in-Some.ensures.steps at c.loop-codes.invariant.2 in
    let width : length c.in-Some.cell.bags ≡ filling.measures =
    All-head (λ (one : Codes × Tally). length one.1.bags ≡ filling.measures) cell
    (recoded_cells columns c.next.new.self) filling.of_left in
    rw width (filling.found c.recoded.result)
