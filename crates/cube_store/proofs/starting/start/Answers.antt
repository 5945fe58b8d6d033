use Rattle.cube_store.proofs.CodeLaws as codes
use Rattle.cube_store.proofs.starting.start.Goals as goal

pub returns-in-Err-clause-accepts : goal.returns-in-Err-clause-accepts
returns-in-Err-clause-accepts g c =
    λ clean store. rw c.from.ensures (codes.start_fails _ _ c.in-Err.fault (c.in-Err.ensures.accepts clean store))

pub returns-in-Err-clause-cause : goal.returns-in-Err-clause-cause
returns-in-Err-clause-cause g c = λ clean. (c.in-Err.fault, c.from.ensures, c.in-Err.ensures.cause clean)
