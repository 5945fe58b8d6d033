use Rattle.cube_build.proofs.BuilderLaws.{IsBuilder-has}
use Rattle.cube_build.proofs.builder.Builder.into_parts.Goals as goal

pub returns-clause-has : goal.returns-clause-has
returns-clause-has c =
    rw (← c.self.view_is) (IsBuilder-has c.self.inside.ledger c.self.inside.cube c.self.invariant)
