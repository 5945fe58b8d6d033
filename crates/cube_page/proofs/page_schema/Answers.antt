use Rattle.cube_page.proofs.ReasonLaws.{HandsReason-string}
use Rattle.cube_page.proofs.page_schema.Goals as goal

pub returns-in-Err-clause-refused : goal.returns-in-Err-clause-refused
returns-in-Err-clause-refused c _ =
    HandsReason-string c.told_of_guess.result c.as_bytes-in-Err.ensures.value c.hand-in-Err.ensures
