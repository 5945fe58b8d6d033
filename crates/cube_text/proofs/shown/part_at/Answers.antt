use Rattle.std.proofs.Common.{◌≡◌, ◌<◌, ◌∙◌, arith, get_or, length, refl}
use Rattle.std.proofs.lemmas.List.{get_or_default}
use Rattle.cube_text.specs.declared.shown.Shown.{Shown}
use Rattle.cube_text.proofs.ShownLaws.{part_at-AreShown}
use Rattle.cube_text.proofs.shown.part_at.Goals as goal

pub returns : goal.returns
returns c = λ dictionaries are inside.
    let codes = c.args.codes.now.codes in
    let shown = c.args.shown.now in
    let d = c.args.dimension in
    let one : Shown = get_or shown d c.index-shown-dimension.result in
    let code = get_or codes d 0 in
    let parts_are : c.as_slice-parts.result.now ≡ one.parts.items = c.as_slice-parts.ensures.value in
    let below : code < length one.parts.items = rw parts_are at c.if-code-parts.false in
    let found_is : c.index-parts-code.result ≡ get_or one.parts.items code c.index-parts-code.result =
    rw parts_are at c.index-parts-code.is in
    let within : d < length codes = omega arith in
    c.as_slice.ensures.value
    ∙ part_at-AreShown dictionaries shown codes d code one c.index-parts-code.result are inside within refl
    (omega (arith, c.if-code-ge-NO_TEXT.false)) c.if-dimension-shown.false
    (get_or_default shown d c.index-shown-dimension.result one c.if-dimension-shown.false) below found_is
