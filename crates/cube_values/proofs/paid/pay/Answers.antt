use Rattle.std.proofs.Common.{ℤ, List, arith}
use Rattle.cube_values.specs.Bag.{SameHeld}
use Rattle.cube_values.specs.Narrow.{once_each}
use Rattle.cube_values.proofs.NarrowLaws.{SameHeld-permuted, held_of-once_each}
use Rattle.cube_values.proofs.paid.pay.Goals as goal

pub take_out-requires-clause-covered : goal.take_out-requires-clause-covered
take_out-requires-clause-covered c =
    let owed : List ℤ = c.args.owed.now in
    let sorted : List ℤ = c.sort_unstable.new.self in
    let same : SameHeld (once_each owed) (once_each sorted) =
    SameHeld-permuted owed sorted c.sort_unstable.ensures.permutation in
    record {
      times = λ x. omega (
        arith,
        c.requires.times x,
        c.bring_in_order.ensures.same.held x,
        same.held x,
        held_of-once_each owed x,
        held_of-once_each sorted x,
      );
    }

pub returns-clause-same : goal.returns-clause-same
returns-clause-same c =
    let owed : List ℤ = c.args.owed.now in
    let sorted : List ℤ = c.sort_unstable.new.self in
    let same : SameHeld (once_each owed) (once_each sorted) =
    SameHeld-permuted owed sorted c.sort_unstable.ensures.permutation in
    record {
      held = λ x. omega (
        arith,
        c.bring_in_order.ensures.same.held x,
        same.held x,
        c.take_out.ensures.same.held x,
      );
    }
