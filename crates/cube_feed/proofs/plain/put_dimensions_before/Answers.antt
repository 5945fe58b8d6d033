use Rattle.std.proofs.Common.{◌≡◌, ◌∷◌, None, rules}
use Rattle.csv.specs.Records.{fields_of, partial_of}
use Rattle.cube_core.specs.Plain.{nulls_of, plain_dimension}
use Rattle.cube_core.specs.Takes.{null_text}
use Rattle.cube_feed.proofs.PlainFieldLaws.{part-more, part-none}
use Rattle.cube_feed.proofs.plain.put_dimensions_before.Goals as goal

pub loop-place-preserved : goal.loop-place-preserved
loop-place-preserved c =
    let plain = plain_dimension c.args.schema.now (null_text ∷ nulls_of c.args.schema.now) None in
    let is : c.dimension_from.result.now ≡ plain c.in-Some.field.now = search rules in (
      c.in_ok-push_field.ensures.partial,
      part-more plain (fields_of c.args.fields.now) c.loop-place.place c.args.end _ (fields_of c.loop-place.plain) _
          c.in-Some.field.now c.dimension_from.result.now (partial_of c.loop-place.plain) c.loop-place-test.true
          c.in-Some.ensures.value is c.loop-place.invariant.0 c.in_ok-push_field.ensures.fields
          c.loop-place.invariant.1,
    )

pub returns-in_default : goal.returns-in_default
returns-in_default c = (
  part-none (plain_dimension c.args.schema.now (null_text ∷ nulls_of c.args.schema.now) None)
      (fields_of c.args.fields.now) c.loop-place.place c.args.end _
      (fields_of c.loop-place.plain) c.in_default.ensures.value c.loop-place.invariant.1,
  c.loop-place.invariant.0,
)
