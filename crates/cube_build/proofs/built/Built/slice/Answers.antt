use Rattle.std.proofs.lemmas.Result.{IfOk-weaker}
use Rattle.cube_build.proofs.PartLaws.{of-one}
use Rattle.cube_build.proofs.built.Built.slice.Goals as goal

pub rows_of_parts-requires-clause-parts : goal.rows_of_parts-requires-clause-parts
rows_of_parts-requires-clause-parts c = of-one c.builders.ensures.parts

pub returns : goal.returns
returns c =
    IfOk-weaker c.rows_of_parts.result _ _ (λ rows whole.
    rw (← c.builders.ensures.builders) (whole _ _ c.builders.ensures.parts)) c.rows_of_parts.ensures
