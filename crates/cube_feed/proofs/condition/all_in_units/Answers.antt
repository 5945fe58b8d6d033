use Rattle.std.proofs.Common.{◌∙◌, ◌-◌, ap, arith, length, map, rules}
use Rattle.std.proofs.lemmas.List.{take_all}
use Rattle.csv.specs.Records.{fields_of, partial_of}
use Rattle.cube_core.specs.Plain.{in_units}
use Rattle.cube_feed.proofs.PlainFieldLaws.{part-all, part-more, part-none}
use Rattle.cube_feed.proofs.condition.all_in_units.Goals.{else-loop-place-test, then-loop-place-test+in_default}
use Rattle.cube_feed.proofs.condition.all_in_units.Goals as goal

pub loop-place-preserved : goal.loop-place-preserved
loop-place-preserved c = (
  c.in_ok-push_field.ensures.partial,
  part-more (in_units c.args.digits 46) (fields_of c.args.fields.now) c.loop-place.place
      (length (fields_of c.args.fields.now)) _ (fields_of c.loop-place.plain) _ c.in-Some.field.now
      c.in_ok-in_units.field-0.now (partial_of c.loop-place.plain)
      (search rules) c.in-Some.ensures.value c.in_ok-in_units.ensures c.loop-place.invariant.0
      c.in_ok-push_field.ensures.fields c.loop-place.invariant.1,
)

pub returns : goal.returns
returns c =
    let fields = fields_of c.args.fields.now in
    let place = c.loop-place.place in
    let plain = fields_of c.loop-place.plain in
    let so_far = c.loop-place.invariant.1 in
    elim c.loop-place-test.branch [
      | else-loop-place-test w ↦
          part-all (in_units c.args.digits 46) fields place (length fields) _ plain (search rules) so_far
          ∙ ap (map (in_units c.args.digits 46)) (take_all (length fields - 0) fields (omega arith))
      | then-loop-place-test+in_default w ↦
          part-none (in_units c.args.digits 46) fields place (length fields) _ plain w.in_default.ensures.value so_far
          ∙ ap (map (in_units c.args.digits 46)) (take_all (length fields - 0) fields (omega arith))
    ]
