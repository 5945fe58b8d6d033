use Rattle.std.proofs.Common.{◌≡◌, Some, rules}
use Rattle.cube_merge.proofs.JointLaws.{IsUse-by}
use Rattle.cube_merge.proofs.step.has_key.Goals as goal

pub returns-in-Some : goal.returns-in-Some
returns-in-Some g c =
    let is : c.args.input.now.row ≡ Some c.in-Some.row.now = search rules in
    IsUse-by c.args.key.now c.args.input.now c.in-Some.row.now c.is_same_key.result is c.requires.least
    c.is_same_key.ensures
