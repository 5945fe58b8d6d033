use Rattle.std.proofs.Common.{◌∙◌}
use Rattle.cube_core.specs.Text.{coord_text}
use Rattle.cube_text.proofs.FieldLaws.{AddsParts-next}
use Rattle.cube_text.proofs.print.put_coords.Goals as goal

pub loop-coord-preserved : goal.loop-coord-preserved
loop-coord-preserved c =
    AddsParts-next coord_text c.args.coords.now c.loop-coord.coord-index c.coord-item.result _
    c.args.text.now.items c.loop-coord.text.items c.push_coord.new.text.items c.loop-coord-test.true
    (c.of.ensures ∙ c.coord-item.is) c.loop-coord.invariant c.in_ok-push_coord.ensures
