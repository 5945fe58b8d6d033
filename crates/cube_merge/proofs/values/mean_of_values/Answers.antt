use Rattle.std.proofs.Common.{FitsSigned, rules}
use Rattle.std.specs.Int.{w128}
use Rattle.std.proofs.lemmas.Int.{to_z-of_z}
use Rattle.cube_core.specs.Answer.{values_held}
use Rattle.cube_merge.proofs.ValuesLaws.{IsMean-IsMeanOf}
use Rattle.cube_merge.proofs.values.mean_of_values.Goals as goal

pub returns : goal.returns
returns c =
    let fits : FitsSigned w128 c.total_of.result = search rules in
    IsMean-IsMeanOf (values_held c.args.listed.now) c.mean_by.result
    (rw (to_z-of_z w128 c.total_of.result fits, c.total_of.ensures, c.count_of_values.ensures) at c.mean_by.ensures)
