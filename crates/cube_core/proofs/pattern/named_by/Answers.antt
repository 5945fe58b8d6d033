use Rattle.cube_core.proofs.QueryLaws.{named_by-text, named_by-none}
use Rattle.cube_core.proofs.pattern.named_by.Goals as goal

pub returns-in-Ok : goal.returns-in-Ok
returns-in-Ok c =
    let text = c.in-Ok.ensures.cases in
    rw text.0 (named_by-text _ _ _ c.in_ok-first.ensures.cases.0 c.if-first-ne61.false text.1)

pub returns-in-Err : goal.returns-in-Err
returns-in-Err c = named_by-none _ _ _ c.in_ok-first.ensures.cases.0 c.if-first-ne61.false c.in-Err.ensures.cases.0
