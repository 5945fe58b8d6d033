use Rattle.cube_core.specs.Text.{grouping_text}
use Rattle.cube_core.specs.declared.key.Coord.TheVariants as coord
use Rattle.cube_text.proofs.FieldLaws.{AddsParts-next}
use Rattle.cube_text.proofs.print.put_key_groupings.Goals as goal

pub loop-dimension-preserved : goal.loop-dimension-preserved
loop-dimension-preserved c =
    AddsParts-next grouping_text c.args.cell.now.0.coords c.loop-dimension.dimension coord.All _
    c.args.text.now.items c.loop-dimension.text.items c.push_grouping.new.text.items
    (rw c.dimensions-dimension-end.ensures at c.loop-dimension-test.true)
    c.coord.ensures c.loop-dimension.invariant c.in_ok-push_grouping.ensures
