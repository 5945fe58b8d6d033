use Rattle.std.proofs.Common.{refl, None}
use Rattle.cube_core.proofs.AmendmentLaws.{fields_over-take}
use Rattle.cube_core.proofs.partial.dims_over.Goals as goal
use Rattle.cube_core.proofs.partial.dims_over.Goals.{in-Keep, in-Put}

pub loop-i-preserved : goal.loop-i-preserved
loop-i-preserved c =
    let more = fields_over-take c.args.fields.now c.args.olds.now c.loop-i.i c.index-fields-i.result None
    c.loop-i-test.true c.requires in
    let is = rw (← c.index-fields-i.is) at more in (
      c.requires,
      elim c.match-field.branch [
        | in-Keep w ↦ rw (c.in_ok-push.ensures, c.loop-i.invariant.1, is, w.push-is, w.get.ensures, w.in-Keep.is) refl
        | in-Put w ↦ rw (c.in_ok-push.ensures, c.loop-i.invariant.1, is, w.push-is, w.text_of.ensures, w.in-Put.is) refl
      ],
    )
