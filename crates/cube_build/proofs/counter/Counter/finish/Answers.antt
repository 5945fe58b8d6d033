use Rattle.std.proofs.Common.{◌≡◌, ◌∙◌, false, rules}
use Rattle.cube_build.specs.Counting.{CounterView, IsCounter}
use Rattle.cube_build.proofs.CountingLaws.{counter-unspent, counts-of, kept-counts}
use Rattle.cube_build.proofs.counter.Counter.finish.Given.{Over}
use Rattle.cube_build.proofs.counter.Counter.finish.Goals.{After-keeping-trace}
use Rattle.cube_build.proofs.counter.Counter.finish.Goals as goal

-- memory hasn't run out
counter : (g : Over) (c : After-keeping-trace g) → IsCounter false c.self.inside.conditions.now c.self.inside.refused
    c.self.inside.trace.ledger c.self.inside.weights.items c.self.inside.cube
counter g c =
    let unspent : c.self.inside.is_spent ≡ false = search rules in
    counter-unspent c.self.inside.is_spent c.self.inside.conditions.now c.self.inside.refused
    c.self.inside.trace.ledger c.self.inside.weights.items c.self.inside.cube unspent c.self.invariant

-- the refusals, the facts of interest and their cube
pub new-requires : goal.new-requires
new-requires g c =
    kept-counts c.self.inside.conditions.now c.self.inside.refused c.self.inside.trace.ledger
    c.keeping-trace.result.ledger c.self.inside.weights.items c.self.inside.cube c.keeping-trace.ensures
    (counter g (goal.at.new-requires g c).After-keeping-trace)

pub returns : goal.returns
returns g c =
    let was : CounterView = record {
      is_spent = c.self.inside.is_spent;
      conditions = c.self.inside.conditions.now;
      ledger = c.self.inside.trace.ledger;
    } in
    rw (← c.self.view_is)
    (counts-of was c.self.inside.refused c.self.inside.weights.items c.self.inside.cube c.new.result (search rules)
    (c.new.ensures.ledger ∙ c.keeping-trace.ensures) c.new.ensures.cube
    (counter g (goal.at.returns g c).After-keeping-trace))
