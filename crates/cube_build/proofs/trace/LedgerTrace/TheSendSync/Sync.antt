-- What any thread may have, and which does not change behind a reference, any thread may look at.
use denote.Param.Send.{IsSync, part_keyless}
use Rattle.cube_build.specs.contracts.trace.LedgerTrace.{the_row}
use Rattle.cube_build.proofs.trace.LedgerTrace.TheSendSync.Send.{send}

pub sync : IsSync the_row
sync = record { shared = λ trace b o κ share. part_keyless the_row send share trace b o }
