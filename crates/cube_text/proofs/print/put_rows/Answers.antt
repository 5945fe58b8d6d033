use Rattle.cube_text.proofs.PartLaws.{lines-more}
use Rattle.cube_text.proofs.print.put_rows.Goals as goal

pub loop-row-preserved : goal.loop-row-preserved
loop-row-preserved c =
    lines-more c.args.digits.now c.args.rows.now c.loop-row.row-index c.row-item.result c.args.text.now.items
    c.loop-row.text.items c.put_row.new.text.items c.loop-row-test.true c.row-item.is c.loop-row.invariant
    c.in_ok-put_row.ensures
