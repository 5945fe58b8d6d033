use Rattle.csv.specs.Records.{fields_of, partial_of}
use Rattle.cube_feed.proofs.ArrangedLaws.{field-more, field-none}
use Rattle.cube_feed.proofs.arranged.put_fields.Goals as goal

pub loop-place-preserved : goal.loop-place-preserved
loop-place-preserved c = (
  c.in_ok-push_field.ensures.partial,
  field-more (fields_of c.args.fields.now) c.loop-place.place c.args.end _ (fields_of c.loop-place.row) _
      c.in-Some.field.now (partial_of c.loop-place.row) c.loop-place-test.true c.in-Some.ensures.value
      c.loop-place.invariant.0 c.in_ok-push_field.ensures.fields c.loop-place.invariant.1,
)

pub returns-in_default : goal.returns-in_default
returns-in_default c = (
  field-none (fields_of c.args.fields.now) c.loop-place.place c.args.end _ (fields_of c.loop-place.row)
      c.in_default.ensures.value c.loop-place.invariant.1,
  c.loop-place.invariant.0,
)
