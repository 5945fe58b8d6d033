use Rattle.std.proofs.Common.{◌≡◌, arith, rules}
use Rattle.cube_values.proofs.BagLaws.{takes_alone}
use Rattle.cube_values.proofs.single.Single.remove.Goals as goal

pub returns-clause-taken : goal.returns-clause-taken
returns-clause-taken c =
    let same : c.self.inside.value ≡ c.args.value = search rules in
    rw (← c.self.view_is) (takes_alone c.self.inside.value c.args.value c.self.inside.count same (omega arith))
