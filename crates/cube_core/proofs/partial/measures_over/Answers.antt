use Rattle.std.proofs.Common.{None, refl}
use Rattle.cube_core.specs.declared.partial.Field.TheVariants.{Keep}
use Rattle.cube_core.proofs.AmendmentLaws.{fields_over-take}
use Rattle.cube_core.proofs.partial.measures_over.Goals as goal

pub loop-i-preserved : goal.loop-i-preserved
loop-i-preserved c =
    let more = fields_over-take c.args.fields.now c.args.olds.now c.loop-i.i Keep None c.loop-i-test.true c.requires in
    (c.requires, rw (c.in_ok-push.ensures, c.loop-i.invariant.1, more, c.over-value.ensures) refl)
