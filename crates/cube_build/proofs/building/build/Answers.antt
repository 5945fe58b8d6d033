use Rattle.std.proofs.lemmas.Result.{IfOk-weaker}
use Rattle.cube_build.proofs.InterestLaws.{builds-without}
use Rattle.cube_build.proofs.building.build.Goals as goal

pub returns-clause-ok : goal.returns-clause-ok
returns-clause-ok g c =
    IfOk-weaker c.build_where.result _ _ (λ built builds.
    builds-without c.args.schema.now _ c.args.settings.now.builders built builds) c.build_where.ensures.ok
