use Rattle.cube_text.proofs.ColumnLaws.{IsColumn-push}
use Rattle.cube_text.proofs.print.column_of.Goals as goal

pub loop-place-preserved : goal.loop-place-preserved
loop-place-preserved c =
    rw c.in_ok-push.ensures.items
    (IsColumn-push _ c.args.cells.now.cells c.args.from c.loop-place.place c.loop-place.column.items c.in_ok-answer.field-0
    c.loop-place.invariant.0 c.loop-place.invariant.1 (λ unused. rw (← c.cell_at.ensures.cell unused) c.in_ok-answer.ensures))
