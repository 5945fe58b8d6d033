use Rattle.std.proofs.Common.{◌<◌, length, arith, rules}
use Rattle.csv.specs.Records.{fields_of}
use Rattle.cube_feed.proofs.ArrangedLaws.{measure_of_kind-more}
use Rattle.cube_feed.proofs.arranged.put_measures.Goals as goal

pub loop-place-preserved : goal.loop-place-preserved
loop-place-preserved c =
    let inside : c.loop-place.place < length (fields_of c.args.fields.now) = search rules in (
      omega (arith, c.loop-place.invariant.0),
      c.in_ok-put_if.ensures.1,
      measure_of_kind-more c.args.kind c.args.text_places.now (fields_of c.args.fields.now) c.args.first
          c.loop-place.place _ (fields_of c.loop-place.row) _ c.bytes_at.result.now c.is_of-is_put.result
          c.loop-place.invariant.0 inside c.bytes_at.ensures c.is_of-is_put.ensures c.in_ok-put_if.ensures.0
          c.loop-place.invariant.2,
    )
