use Rattle.std.proofs.Common.{FitsSigned, w64}
use Rattle.std.proofs.lemmas.Int.{to_z-of_z}
use Rattle.cube_values.specs.Log.{without}
use Rattle.cube_values.proofs.OwedLaws.{held_of-paid, AddsOne-paid}
use Rattle.cube_values.proofs.log.pay_and_take.Goals as goal

pub take_held-requires-clause-held : goal.take_held-requires-clause-held
take_held-requires-clause-held c =
    let fits : FitsSigned w64 c.args.value = c.ranges.value in
    rw (to_z-of_z w64 c.args.value fits) (held_of-paid (without c.args.owed.now c.args.pairs.now)
    c.pay.new.pairs c.args.value c.pay.ensures.same c.requires.held)

pub returns-clause-taken : goal.returns-clause-taken
returns-clause-taken c =
    let fits : FitsSigned w64 c.args.value = c.ranges.value in
    let taken = simp to_z-of_z at c.take_held.ensures.taken in
    AddsOne-paid (without c.args.owed.now c.args.pairs.now)
    c.pay.new.pairs c.take_held.new.pairs c.args.value c.pay.ensures.same taken
