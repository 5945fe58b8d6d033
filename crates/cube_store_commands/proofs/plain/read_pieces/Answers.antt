use Rattle.std.proofs.lemmas.Result.{on_ok_weaker}
use Rattle.csv.specs.Records.{fields_of, partial_of}
use Rattle.cube_store_commands.specs.Pieces.{pieces}
use Rattle.cube_store_commands.proofs.PieceLaws.{more_pieces, last_piece}
use Rattle.cube_store_commands.proofs.plain.read_pieces.Goals as goal

pub loop-place-preserved : goal.loop-place-preserved
loop-place-preserved c =
    let found = c.in-Some.ensures in
    let fields = c.loop-place.fields in (
      c.in_ok-push_field.ensures.partial,
      rw c.split_at.ensures.back (more_pieces (pieces c.args.text.now) (fields_of fields) _
          (partial_of fields) c.loop-place.left.now c.in-Some.place
          found.within found.before found.found c.loop-place.invariant.0
          (rw c.split_at.ensures.front at c.in_ok-push_field.ensures.fields) c.loop-place.invariant.1),
    )

pub returns : goal.returns
returns c =
    let fields = c.loop-place.fields in
    on_ok_weaker c.push_field-2.result
    (λ put. last_piece (pieces c.args.text.now) (fields_of fields) _ (partial_of fields) c.loop-place.left.now
    c.in_default.ensures.none c.loop-place.invariant.0 put c.loop-place.invariant.1) c.push_field-2.ensures.fields
