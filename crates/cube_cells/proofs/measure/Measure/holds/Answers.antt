use Rattle.std.proofs.Common.{rules, FitsSigned}
use Rattle.std.specs.Int.{w64}
use Rattle.std.proofs.lemmas.Int.{to_z-of_z}
use Rattle.cube_cells.proofs.measure.Measure.holds.Goals as goal

pub returns-in-Some : goal.returns-in-Some
returns-in-Some c =
    let fits : FitsSigned w64 c.in-Some.value = search rules in
    let is = simp to_z-of_z at c.holds.ensures in
    rw (c.in-Some.is, ← c.self.view_is) is
