use Rattle.cube_build.proofs.DraftLaws.{new-more}
use Rattle.cube_build.proofs.draft.new_drafts.Goals as goal

pub loop-part-preserved : goal.loop-part-preserved
loop-part-preserved g c =
    let loop = c.loop-part in
    rw c.in_ok-push.ensures.items
    (new-more c.args.schema.now c.args.sources c.args.parts loop.part loop.drafts.items c.in_ok-new_part.field-0
    loop.invariant c.in_ok-new_part.ensures)
