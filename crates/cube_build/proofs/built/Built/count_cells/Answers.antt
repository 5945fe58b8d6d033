use Rattle.std.proofs.lemmas.Result.{IfOk-weaker}
use Rattle.cube_build.proofs.built.Built.count_cells.Goals as goal

pub returns : goal.returns
returns c =
    IfOk-weaker c.count_parts.result _ _ (λ number whole.
    rw (← c.builders.ensures.builders) (whole _ _ c.builders.ensures.parts)) c.count_parts.ensures
