use Rattle.cube_values.specs.Narrow.{once_each}
use Rattle.cube_values.proofs.EndLaws.{held_of-size_of}
use Rattle.cube_values.proofs.narrow.Narrow.greatest.Goals as goal

pub returns-clause-none : goal.returns-clause-none
returns-clause-none c = rw (← c.self.view_is) (
  λ h. cc,
  λ none. absurd (held_of-size_of (once_each c.self.inside.numbers.items)
      c.self.inside.greatest c.self.invariant.greatest.held none),
)
