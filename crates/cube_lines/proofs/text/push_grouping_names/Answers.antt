use Rattle.std.proofs.Common.{◌∷◌, [], rules}
use Rattle.cube_core.specs.Text.{grouping_name}
use Rattle.cube_lines.specs.Parts.{AddsParts}
use Rattle.cube_lines.proofs.TextLaws.{AddsParts-more}
use Rattle.cube_lines.proofs.text.push_grouping_names.Goals as goal

pub loop-dimension-preserved : goal.loop-dimension-preserved
loop-dimension-preserved c =
    let adds :
    AddsParts (grouping_name c.dimension-item.result ∷ []) c.loop-dimension.text.items c.push_field.new.text.items =
    search rules in
    AddsParts-more grouping_name c.args.dimensions.now c.loop-dimension.dimension-index c.dimension-item.result
    c.args.text.now.items c.loop-dimension.text.items c.push_field.new.text.items c.loop-dimension-test.true
    c.dimension-item.is c.loop-dimension.invariant adds
