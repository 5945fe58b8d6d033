use Rattle.std.proofs.Common.{arith, length-drop, length-take, rules}
use Rattle.cube_lines.proofs.AppendLaws.{Appends-take}
use Rattle.cube_lines.proofs.write.send.Goals as goal

pub loop-sent-preserved : goal.loop-sent-preserved
loop-sent-preserved g c =
    let taken = simp (length-take, length-drop) at c.in-Ok.ensures.bound in (
      omega arith,
      Appends-take _ _ _ c.args.bytes.now _ _ c.loop-sent.invariant.1 c.in-Ok.ensures.bytes,
    )

pub returns-in_default-clause-part : goal.returns-in_default-clause-part
returns-in_default-clause-part g c = search rules

pub returns-in_default-2-clause-part : goal.returns-in_default-2-clause-part
returns-in_default-2-clause-part g c = search rules
