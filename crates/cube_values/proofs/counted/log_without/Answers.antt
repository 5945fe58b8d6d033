use Rattle.std.proofs.Common.{arith, rules, FitsSigned, w64}
use Rattle.std.proofs.lemmas.Int.{to_z-of_z}
use Rattle.cube_values.specs.Bag.{SameHeld}
use Rattle.cube_values.specs.Narrow.{once_each}
use Rattle.cube_values.proofs.BagLaws.{size_of_same}
use Rattle.cube_values.proofs.OwedLaws.{held_of-paid, AddsOne-paid}
use Rattle.cube_values.proofs.NarrowLaws.{SameHeld-AddsBag_nothing}
use Rattle.cube_values.proofs.counted.log_without.Goals as goal

pub take-requires-clause-held : goal.take-requires-clause-held
take-requires-clause-held c =
    let fits : FitsSigned w64 c.args.value = c.ranges.value in
    let same : SameHeld (once_each c.args.numbers.now) c.in_ok-log.log.value =
    SameHeld-AddsBag_nothing (once_each c.args.numbers.now) c.in_ok-log.log.value (search rules) in
    rw (to_z-of_z w64 c.args.value fits, c.deref_mut.ensures.value)
    (held_of-paid (once_each c.args.numbers.now) c.in_ok-log.log.value c.args.value same c.requires.held)

pub take-requires-clause-fits : goal.take-requires-clause-fits
take-requires-clause-fits c =
    let same : SameHeld (once_each c.args.numbers.now) c.in_ok-log.log.value =
    SameHeld-AddsBag_nothing (once_each c.args.numbers.now) c.in_ok-log.log.value (search rules) in
    rw c.deref_mut.ensures.value (
    omega (arith, c.requires.fits, size_of_same (once_each c.args.numbers.now) c.in_ok-log.log.value same))

pub returns : goal.returns
returns c =
    let fits : FitsSigned w64 c.args.value = c.ranges.value in
    let same : SameHeld (once_each c.args.numbers.now) c.in_ok-log.log.value =
    SameHeld-AddsBag_nothing (once_each c.args.numbers.now) c.in_ok-log.log.value (search rules) in
    let taken = simp to_z-of_z at (rw c.deref_mut.ensures.value at c.take.ensures) in
    AddsOne-paid (once_each c.args.numbers.now) c.in_ok-log.log.value c.take.new.self c.args.value same taken
