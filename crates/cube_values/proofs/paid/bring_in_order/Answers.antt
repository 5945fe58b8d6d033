use Rattle.std.proofs.Common.{ℤ, List}
use Rattle.cube_values.specs.Narrow.{once_each}
use Rattle.cube_values.proofs.NarrowLaws.{SameHeld-permuted}
use Rattle.cube_values.proofs.OwedLaws.{SameHeld-both}
use Rattle.cube_values.proofs.paid.bring_in_order.Goals as goal

pub returns-then-is_err-clause-same : goal.returns-then-is_err-clause-same
returns-then-is_err-clause-same c =
    let old : List ℤ = c.args.numbers.now.items in
    let left : List ℤ = c.sort.new.self.items in
    let new : List ℤ = c.sort_unstable.new.self.items in
    SameHeld-both (once_each old) (once_each left) (once_each new)
    (SameHeld-permuted old left c.sort.ensures.permutation)
    (SameHeld-permuted left new c.sort_unstable.ensures.permutation)

pub returns-else-is_err-clause-same : goal.returns-else-is_err-clause-same
returns-else-is_err-clause-same c =
    SameHeld-permuted c.args.numbers.now.items c.sort.new.self.items c.sort.ensures.permutation
