use Rattle.std.proofs.Common.{ℤ, List, ◌≡◌, length, rules, FitsSigned, w32}
use Rattle.std.specs.List.Sorted.{IsPermutation, IsSorted}
use Rattle.std.specs.Ordering.{int_cmp}
use Rattle.std.proofs.lemmas.Int.{to_z-of_z}
use Rattle.cube_values.specs.Bag.{HasEnds}
use Rattle.cube_values.specs.Narrow.{once_each}
use Rattle.cube_values.proofs.NarrowLaws.{SameHeld-permuted}
use Rattle.cube_values.proofs.OrderedLaws.{IsListed-sorted}
use Rattle.cube_values.proofs.ordered.Ordered.of_narrow.Goals as goal

pub invariant_of-result : goal.invariant_of-result
invariant_of-result c =
    let numbers : List ℤ = c.into_parts-numbers.result.0.items in
    let new : List ℤ = c.sort_unstable.new.self.items in
    let least : ℤ = c.into_parts-numbers.result.1.0 in
    let greatest : ℤ = c.into_parts-numbers.result.1.1 in
    let moved : IsPermutation numbers new = search rules in
    let sorted : IsSorted int_cmp new = search rules in
    let all : c.len-sorted.result ≡ length new = search rules in
    let low_fits : FitsSigned w32 least = search rules in
    let high_fits : FitsSigned w32 greatest = search rules in
    let trace : c.list-trace.result.bag ≡ once_each numbers = search rules in
    let ends : HasEnds (once_each numbers) least greatest =
    (rw c.into_parts-numbers.ensures.numbers at c.into_parts-numbers.ensures.ends) in
    rw (trace, c.new.ensures.items, to_z-of_z w32 least low_fits, to_z-of_z w32 greatest high_fits)
    (IsListed-sorted (once_each numbers) new c.len-sorted.result least greatest (SameHeld-permuted numbers new moved)
    sorted all ends)
