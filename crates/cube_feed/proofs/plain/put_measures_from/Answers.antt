use Rattle.std.proofs.Common.{◌≡◌, ◌-◌, ◌∷◌, rules, arith}
use Rattle.csv.specs.Records.{fields_of, partial_of}
use Rattle.cube_core.specs.Plain.{nulls_of, plain_measure}
use Rattle.cube_core.specs.Takes.{null_text}
use Rattle.cube_core.proofs.QueryLaws.{field_at-None}
use Rattle.cube_feed.proofs.PlainFieldLaws.{measure-from-more, measure-none}
use Rattle.cube_feed.proofs.plain.put_measures_from.Goals as goal

pub loop-place-preserved : goal.loop-place-preserved
loop-place-preserved c =
    let s = c.args.schema.now in
    let nulls = null_text ∷ nulls_of c.args.schema.now in
    let is : c.in_ok-measure_from.field-0.now
    ≡ plain_measure c.args.schema.now (null_text ∷ nulls_of c.args.schema.now) 46 (c.loop-place.place - c.args.first)
    c.in-Some.field.now = search rules in (
      omega (arith, c.loop-place.invariant.0),
      c.in_ok-push_field.ensures.partial,
      measure-from-more s nulls 46 c.args.first c.loop-place.place (fields_of c.args.fields.now) _
          (fields_of c.loop-place.plain) _ c.in-Some.field.now c.in_ok-measure_from.field-0.now
          (partial_of c.loop-place.plain) c.loop-place.invariant.0 c.in-Some.ensures.value is
          c.loop-place.invariant.1 c.in_ok-push_field.ensures.fields c.loop-place.invariant.2,
    )

pub returns-in_default : goal.returns-in_default
returns-in_default c = (
  measure-none c.args.schema.now (null_text ∷ nulls_of c.args.schema.now) 46 (c.loop-place.place - c.args.first) _ _
      (fields_of c.loop-place.plain) (field_at-None (fields_of c.args.fields.now) c.loop-place.place
      c.in_default.ensures.value) c.loop-place.invariant.2,
  c.loop-place.invariant.1,
)
