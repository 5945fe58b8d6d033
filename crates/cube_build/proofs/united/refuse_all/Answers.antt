use Rattle.std.proofs.Common.{◌<◌, get_or, length, rules}
use Rattle.cube_core.specs.declared.change.Refusal.{Refusal}
use Rattle.cube_build.proofs.UnitedLaws.{refusing-more}
use Rattle.cube_build.proofs.united.refuse_all.Goals as goal

pub loop-refusal-preserved : goal.loop-refusal-preserved
loop-refusal-preserved c =
    let loop = c.loop-refusal in
    let xs = c.args.refusals.now in
    let i = loop.refusal-index in
    let none : Refusal = record { number = 0; code = 0 } in
    let below : i < length xs = search rules in
    let above : loop.last < (get_or xs i none).number = search rules in
    refusing-more c.args.fresh.schema xs i loop.last none loop.refused c.refuse.new.self below above
    loop.invariant.0 loop.invariant.1 loop.invariant.2 c.in_ok-refuse.ensures.ok
