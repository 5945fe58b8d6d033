use Rattle.cube_page.proofs.ExplainedLaws.{IsSaid-append}
use Rattle.cube_page.proofs.explained.add_notes.Goals as goal

pub returns-in-Ok : goal.returns-in-Ok
returns-in-Ok c = rw c.in-Ok.ensures.written (IsSaid-append c.requires c.args.notes.now)
