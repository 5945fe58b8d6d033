use Rattle.cube_core.specs.Items.{field_at}
use Rattle.cube_core.specs.declared.change.Change.TheVariants.{Delete}
use Rattle.cube_feed.proofs.line.delete.Goals as goal

pub returns-in-Ok : goal.returns-in-Ok
returns-in-Ok c = rw (rw c.in-Ok.is at c.in_ok-id.ensures.id)
    ((rw c.in-Ok.is at c.in_ok-id.ensures.read) (Delete (field_at c.args.fields.now 1)))

pub returns-in-Err : goal.returns-in-Err
returns-in-Err c = (rw c.in-Err.is at c.in_ok-id.ensures.read) (Delete (field_at c.args.fields.now 1))
