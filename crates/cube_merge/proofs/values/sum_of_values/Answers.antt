use Rattle.std.proofs.Common.{◌<◌, FitsSigned, length, rules}
use Rattle.std.specs.Int.{w128}
use Rattle.std.proofs.lemmas.Int.{to_z-of_z}
use Rattle.cube_core.specs.Answer.{values_held}
use Rattle.cube_merge.proofs.ValuesLaws.{AreListed-some, IsSum-some}
use Rattle.cube_merge.proofs.values.sum_of_values.Goals as goal

pub returns : goal.returns
returns c =
    let fits : FitsSigned w128 c.total_of.result = search rules in
    let some : 0 < length c.args.listed.now = search rules in
    rw (to_z-of_z w128 c.total_of.result fits, c.total_of.ensures)
    (IsSum-some (values_held c.args.listed.now) (AreListed-some c.args.listed.now c.requires some))
