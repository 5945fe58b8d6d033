use Rattle.cube_store.specs.Rows.{entry_of}
use Rattle.cube_store.proofs.row.is_note.Goals as goal

pub returns-in-None : goal.returns-in-None
returns-in-None c = (λ h. cc, λ e. absurd (c.in-None.ensures.none (entry_of c.args.note.now) e))
