use Rattle.cube_values.proofs.EndLaws.{held_of-size_of}
use Rattle.cube_values.proofs.ordered.Ordered.greatest.Goals as goal

pub returns-clause-none : goal.returns-clause-none
returns-clause-none c = rw (← c.self.view_is) (
  λ h. cc,
  λ none. absurd
      (held_of-size_of c.self.inside.trace.bag c.self.inside.greatest c.self.invariant.ends.greatest.held none),
)
