use Rattle.std.proofs.Common.{map}
use Rattle.std.proofs.lemmas.Result.{IfErr-weaker, on_ok_weaker}
use Rattle.cube_tool.proofs.MergingLaws.{CanBeMerged-merged, CheckFails-leaves}
use Rattle.cube_tool.proofs.command.merging.check_cubes.Goals as goal

pub returns-clause-right : goal.returns-clause-right
returns-clause-right g c =
    on_ok_weaker c.merge_cubes.result (λ merged. CanBeMerged-merged c.args.given.now c.args.wanted.now
    (map g.R.Read.remaining c.args.readers.items) _ _ merged) c.merge_cubes.ensures.merged

pub returns-clause-err : goal.returns-clause-err
returns-clause-err g c =
    IfErr-weaker c.merge_cubes.result _ _ (λ failure leaves. CheckFails-leaves c.args.given.now c.args.wanted.now
    (map g.R.Read.remaining c.args.readers.items) failure _ _ leaves) c.merge_cubes.ensures.err
