use Rattle.std.proofs.Common.{ℤ, ◌≡◌, ◌∷◌, [], rules, w32, to_z, of_z}
use Rattle.std.specs.Int.{int_min, int_max}
use Rattle.std.proofs.lemmas.Int.{to_z-of_z}
use Rattle.cube_values.proofs.NarrowLaws.{HasEnds-two}
use Rattle.cube_values.proofs.narrow.Narrow.of_two.Goals as goal

pub invariant_of-narrow : goal.invariant_of-narrow
invariant_of-narrow c =
    let first : ℤ = c.in-Some-Some.first in
    let second : ℤ = c.in-Some-Some.second in
    let items : c.extend_from_slice.new.self.items ≡ first ∷ second ∷ [] = search rules in
    let low : to_z w32 (of_z w32 c.min.result) ≡ int_min first second = search (rules, to_z-of_z) in
    let high : to_z w32 (of_z w32 c.max.result) ≡ int_max first second = search (rules, to_z-of_z) in
    rw (items, low, high) (HasEnds-two first second)
