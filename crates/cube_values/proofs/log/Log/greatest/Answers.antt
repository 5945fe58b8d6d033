use Rattle.std.proofs.Common.{rules}
use Rattle.cube_values.specs.Bag.{HasEnds}
use Rattle.cube_values.specs.Log.{without}
use Rattle.cube_values.proofs.EndLaws.{held_of-size_of}
use Rattle.cube_values.proofs.log.Log.greatest.Goals as goal

pub returns-in-Some-clause-none : goal.returns-in-Some-clause-none
returns-in-Some-clause-none c =
    let ends :
    HasEnds (without c.self.inside.taken.items c.self.inside.pairs.items) c.in-Some.ends.least c.in-Some.ends.greatest =
    search rules in
    rw (← c.self.view_is) (
      λ h. cc,
      λ none. absurd (held_of-size_of (without c.self.inside.taken.items c.self.inside.pairs.items)
          c.in-Some.ends.greatest ends.greatest.held none),
    )
