use Rattle.std.proofs.lemmas.Result.{err_from_is_err_and}
use Rattle.cube_core.specs.Items.{field_at}
use Rattle.cube_feed.proofs.FieldLaws.{filter_map-slice_range, is_sound-slice_range, is_sound-is_utf8, is_sound-None}
use Rattle.cube_feed.proofs.line.read_values.Goals as goal

pub returns-in_err-text-clause-line : goal.returns-in_err-text-clause-line
returns-in_err-text-clause-line g c =
    let p = err_from_is_err_and c.from_residual.result c.from_residual.ensures.1 in
    rw p.1 (λ stopped.
    is_sound-slice_range g.T.Spelled.spells c.args.fields.now c.loop-place.place c.args.end _ c.loop-place-test.true
    c.requires.in_record
    (is_sound-is_utf8 g.T.Spelled.spells (field_at c.args.fields.now c.loop-place.place) c.in_err-text.ensures.line.1)
    c.loop-place.invariant.1)

pub returns-in_err-add-clause-line : goal.returns-in_err-add-clause-line
returns-in_err-add-clause-line g c =
    let p = err_from_is_err_and c.from_residual-in_err-add.result c.from_residual-in_err-add.ensures.1 in
    rw p.1 (λ stopped.
    is_sound-slice_range g.T.Spelled.spells c.args.fields.now c.loop-place.place c.args.end _ c.loop-place-test.true
    c.requires.in_record
    (is_sound-None g.T.Spelled.spells (field_at c.args.fields.now c.loop-place.place)
    c.in_ok-text.text.now c.in_ok-text.ensures.text (c.in_err-add.ensures.line cc))
    c.loop-place.invariant.1)

pub loop-place-preserved : goal.loop-place-preserved
loop-place-preserved g c =
    let value = c.in_ok-add.ensures.value in
    let step =
    filter_map-slice_range g.T.Spelled.spells c.args.fields.now c.loop-place.place c.args.end c.in_ok-text.text.now
    value.0 (g.L.SpelledList.values c.loop-place.values) _ _
    c.loop-place-test.true c.requires.in_record c.in_ok-text.ensures.text c.in_ok-text.ensures.sound value.1
    c.loop-place.invariant.1 c.loop-place.invariant.2 in
    (c.requires.in_record, step.0, rw value.2 step.1)
