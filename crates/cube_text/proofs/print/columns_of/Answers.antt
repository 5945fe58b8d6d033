use Rattle.std.proofs.Common.{◌<◌, length}
use Rattle.cube_core.specs.declared.aggregate.Agg.TheVariants.{CountAll}
use Rattle.cube_text.proofs.ColumnLaws.{AreColumns-push}
use Rattle.cube_text.proofs.print.columns_of.Goals as goal

pub loop-which-preserved : goal.loop-which-preserved
loop-which-preserved c =
    let o = c.args.cells.now in
    let inside : c.loop-which.which < length o.aggregates =
    rw c.aggregates-which-end.ensures at c.loop-which-test.true in
    rw c.in_ok-push.ensures.items
    (AreColumns-push o.aggregates o.cells c.args.from c.args.to c.loop-which.which c.loop-which.columns.items
    c.in_ok-column_of.field-0 CountAll inside c.loop-which.invariant c.in_ok-column_of.ensures.long
    (c.in_ok-column_of.ensures.each CountAll))
