use Rattle.std.proofs.lemmas.Result.{IfOk-weaker}
use Rattle.cube_build.proofs.PartLaws.{of-one}
use Rattle.cube_build.proofs.built.Built.ordered.Goals as goal

pub ordered_parts-requires : goal.ordered_parts-requires
ordered_parts-requires c = of-one c.builders.ensures.parts

pub returns : goal.returns
returns c =
    IfOk-weaker c.ordered_parts.result _ _ (λ o whole. λ rows are.
    rw (← c.builders.ensures.builders) (whole rows are _ _ c.builders.ensures.parts)) c.ordered_parts.ensures
