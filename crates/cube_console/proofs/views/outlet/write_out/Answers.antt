use Rattle.std.proofs.Common.{arith, length-drop, length-take}
use Rattle.cube_console.proofs.AppendLaws.{Appends-take}
use Rattle.cube_console.proofs.views.outlet.write_out.Goals as goal

pub loop-sent-preserved : goal.loop-sent-preserved
loop-sent-preserved g c =
    let taken = simp (length-take, length-drop) at c.in-Ok.ensures.bound in (
      omega arith,
      Appends-take _ _ _ c.args.bytes.now _ _ c.loop-sent.invariant.1 c.in-Ok.ensures.bytes,
    )
