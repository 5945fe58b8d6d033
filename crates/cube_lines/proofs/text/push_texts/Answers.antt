use Rattle.std.proofs.Common.{◌∷◌, [], rules}
use Rattle.cube_lines.specs.Parts.{AddsParts}
use Rattle.cube_lines.proofs.TextLaws.{AddsParts-take}
use Rattle.cube_lines.proofs.text.push_texts.Goals as goal

pub loop-field-preserved : goal.loop-field-preserved
loop-field-preserved c =
    let adds : AddsParts (c.field-item.result ∷ []) c.loop-field.text.items c.push_field.new.text.items =
    search rules in
    AddsParts-take c.args.texts.now c.loop-field.field-index c.field-item.result c.args.text.now.items
    c.loop-field.text.items c.push_field.new.text.items c.loop-field-test.true c.field-item.is
    c.loop-field.invariant adds
