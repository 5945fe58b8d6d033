use Rattle.cube_build.specs.Drafts.{AreNewDrafts}
use Rattle.cube_build.proofs.draft.new_drafts.Given as goal

abbrev pub invariant-loop-part : goal.invariant-loop-part
invariant-loop-part g l = AreNewDrafts l.schema l.sources l.parts l.part l.drafts.items
