use Rattle.std.proofs.Common.{rules, FitsSigned}
use Rattle.std.specs.Int.{w128}
use Rattle.std.proofs.lemmas.Int.{to_z-of_z}
use Rattle.cube_merge.proofs.GatherLaws.{sum_answered-none, sum_answered-number}
use Rattle.cube_merge.proofs.gather.total_in.Goals as goal

pub returns-in_default : goal.returns-in_default
returns-in_default c = sum_answered-none c.args.sum.now (search rules)

pub returns : goal.returns
returns c =
    let fits : FitsSigned w128 c.in-Some.total = search rules in
    rw (to_z-of_z w128 c.in-Some.total fits) (sum_answered-number c.args.sum.now c.in-Some.total (search rules))
