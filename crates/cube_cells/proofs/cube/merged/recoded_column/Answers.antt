use Rattle.std.proofs.Common.{arith}
use Rattle.cube_cells.proofs.Filling.MergedLaws.{IsRecoded-more}
use Rattle.cube_cells.proofs.cube.merged.recoded_column.Goals as goal

pub loop-place-preserved : goal.loop-place-preserved
loop-place-preserved c =
    IsRecoded-more c.args.dictionary c.args.more.now c.loop-place.place c.loop-place.column c.push.new.self
    (omega arith) c.loop-place.invariant (rw c.text.ensures at c.in_ok-push.ensures)
