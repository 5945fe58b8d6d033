use Rattle.cube_feed.specs.Contiguous.{BeginsAt}
use Rattle.cube_feed.proofs.contiguous.begin_of.Given as goal

abbrev pub invariant-loop-before : goal.invariant-loop-before
invariant-loop-before l = BeginsAt l.row l.before l.begin
