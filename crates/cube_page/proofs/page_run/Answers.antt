use Rattle.std.proofs.Common.{refl}
use Rattle.cube_page.proofs.ReasonLaws.{HandsReason-string}
use Rattle.cube_page.proofs.page_run.Goals as goal

pub returns-in-Err-clause-refused : goal.returns-in-Err-clause-refused
returns-in-Err-clause-refused c _ = (HandsReason-string c.told.result c.as_bytes.ensures.value c.hand-in-Err.ensures, refl)
