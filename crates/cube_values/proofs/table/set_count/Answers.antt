use Rattle.std.proofs.Common.{FitsSigned, w64, rules}
use Rattle.std.proofs.lemmas.Int.{to_z-of_z}
use Rattle.cube_values.proofs.table.set_count.Goals as goal

pub returns-in-Some : goal.returns-in-Some
returns-in-Some c =
    let fits : FitsSigned w64 c.args.value = c.ranges.value in
    let set = simp to_z-of_z at (c.get_mut.follows.holds c.args.count).0 in
    set

pub returns-in_default : goal.returns-in_default
returns-in_default c =
    let fits : FitsSigned w64 c.args.value = c.ranges.value in
    let none = simp to_z-of_z at c.get_mut.ensures.value in
    search rules
