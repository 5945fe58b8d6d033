use Rattle.cube_values.proofs.EndLaws.{held_of-size_of}
use Rattle.cube_values.proofs.ordered.Ordered.least.Goals as goal

pub returns-clause-none : goal.returns-clause-none
returns-clause-none c = rw (← c.self.view_is) (
  λ h. cc,
  λ none. absurd
      (held_of-size_of c.self.inside.trace.bag c.self.inside.least c.self.invariant.ends.least.held none),
)
