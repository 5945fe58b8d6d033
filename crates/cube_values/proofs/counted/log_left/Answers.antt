use Rattle.std.proofs.Common.{arith, FitsSigned, w64}
use Rattle.std.proofs.lemmas.Int.{to_z-of_z}
use Rattle.std.proofs.lemmas.Result.{IfOk-weaker}
use Rattle.cube_values.specs.Bag.{Bag, AddsOne}
use Rattle.cube_values.specs.Narrow.{once_each}
use Rattle.cube_values.proofs.BagLaws.{size_of_same}
use Rattle.cube_values.proofs.OwedLaws.{held_of-paid, AddsOne-paid}
use Rattle.cube_values.proofs.counted.log_left.Goals as goal

pub log_without-requires-clause-held : goal.log_without-requires-clause-held
log_without-requires-clause-held c =
    let fits : FitsSigned w64 c.args.value = c.ranges.value in
    let listed : Bag = once_each c.in_ok-numbers.numbers.items in
    rw (c.deref.ensures.value, to_z-of_z w64 c.args.value fits)
    (held_of-paid c.args.ordered.now listed c.args.value c.in_ok-numbers.ensures.same c.requires.held)

pub log_without-requires-clause-fits : goal.log_without-requires-clause-fits
log_without-requires-clause-fits c =
    let listed : Bag = once_each c.in_ok-numbers.numbers.items in
    rw c.deref.ensures.value
    (omega (arith, c.requires.fits, size_of_same c.args.ordered.now listed c.in_ok-numbers.ensures.same))

pub returns : goal.returns
returns c =
    let fits : FitsSigned w64 c.args.value = c.ranges.value in
    let bag : Bag = c.args.ordered.now in
    let listed : Bag = once_each c.in_ok-numbers.numbers.items in
    IfOk-weaker c.log_without.result (λ log. AddsOne log.value listed c.args.value)
    (λ log. AddsOne log.value bag c.args.value)
    (λ log taken. AddsOne-paid bag listed log.value c.args.value c.in_ok-numbers.ensures.same taken)
    (rw (c.deref.ensures.value, to_z-of_z w64 c.args.value fits) at c.log_without.ensures)
