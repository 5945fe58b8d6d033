use Rattle.cube_store.proofs.CodeLaws as codes
use Rattle.cube_store.proofs.files.hold_none.Goals as goal

pub returns-in-Err-clause-cause : goal.returns-in-Err-clause-cause
returns-in-Err-clause-cause g c =
    λ clean. rw c.from.ensures (codes.look_fails _ _ _ c.in-Err.error (c.in-Err.ensures.cause clean))

pub returns-in-Ok-clause-ok : goal.returns-in-Ok-clause-ok
returns-in-Ok-clause-ok g c = λ clean. rw c.page_size.ensures at (c.in-Ok.ensures.ok clean)
