use Rattle.std.proofs.Common.{FitsSigned, rules}
use Rattle.std.specs.Int.{w128}
use Rattle.std.proofs.lemmas.Int.{to_z-of_z}
use Rattle.cube_core.specs.Answer.{values_held}
use Rattle.cube_merge.proofs.ValuesLaws.{IsVarianceAnswer-IsVarianceOf}
use Rattle.cube_merge.proofs.values.variance_of_values.Goals as goal

pub returns : goal.returns
returns c =
    let fits : FitsSigned w128 c.total_of.result = search rules in
    IsVarianceAnswer-IsVarianceOf c.args.is_sample (values_held c.args.listed.now) c.variance_by.result
    (rw (
      to_z-of_z w128 c.total_of.result fits,
      c.total_of.ensures,
      c.count_of_values-count.ensures,
      c.squares_of.ensures,
    ) at c.variance_by.ensures)
