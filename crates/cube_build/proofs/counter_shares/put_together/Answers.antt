use Rattle.std.proofs.Common.{rules, ◌≡◌, ◌∷◌}
use Rattle.std.specs.List.{remove}
use Rattle.cube_build.proofs.CounterShareLaws.{ArePutSoFar, CanJoin, can-join, put-first, put-more}
use Rattle.cube_build.proofs.counter_shares.put_together.Given.{Over}
use Rattle.cube_build.proofs.counter_shares.put_together.Goals.{In-Some}
use Rattle.cube_build.proofs.counter_shares.put_together.Goals as goal

pub loop-counter-init : goal.loop-counter-init
loop-counter-init g c =
    let rest : c.into_iter-counter-iterator.result.rest.items ≡ remove c.args.counters.items 0 = search rules in
    put-first c.args.counters.items c.into_iter-counter-iterator.result.rest.items c.remove-whole.result
    c.requires.may.some c.requires.unspent c.remove-whole.ensures.value rest

-- the counter is the next of those that are left
so_far : (g : Over) (c : In-Some g) → ArePutSoFar c.args.counters.items (c.in-Some.counter ∷ c.next.new.self.rest.items)
    c.loop-counter.whole
so_far g c =
    let step : c.loop-counter.counter-iterator.rest.items ≡ c.in-Some.counter ∷ c.next.new.self.rest.items =
    search rules in
    rw step at c.loop-counter.invariant

can : (g : Over) (c : In-Some g) → CanJoin c.loop-counter.whole c.in-Some.counter
can g c = can-join c.args.counters.items c.next.new.self.rest.items c.loop-counter.whole c.in-Some.counter c.requires.may
    c.requires.unspent (so_far g c)

pub joined-requires-clause-schema : goal.joined-requires-clause-schema
joined-requires-clause-schema g c = (can g (goal.at.joined-requires-clause-schema g c).In-Some).schema

pub joined-requires-clause-conditions : goal.joined-requires-clause-conditions
joined-requires-clause-conditions g c = (can g (goal.at.joined-requires-clause-conditions g c).In-Some).conditions

pub joined-requires-clause-most : goal.joined-requires-clause-most
joined-requires-clause-most g c = (can g (goal.at.joined-requires-clause-most g c).In-Some).most

pub loop-counter-preserved : goal.loop-counter-preserved
loop-counter-preserved g c =
    let at = (goal.at.loop-counter-preserved g c).In-Some in
    put-more c.args.counters.items c.next.new.self.rest.items c.loop-counter.whole c.in-Some.counter
    c.in_ok-whole.whole (so_far g at) (can g at).unspent c.in_ok-whole.ensures
