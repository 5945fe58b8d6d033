use Rattle.std.proofs.Common.{◌≡◌, length}
use Rattle.cube_rings.proofs.SendLaws.{HasSent}
use Rattle.cube_rings.proofs.feeding.send_all.Given as goal

abbrev pub invariant-loop : goal.invariant-loop
invariant-loop g l =
    (length l.outlets ≡ length l.fn.outlets) × HasSent l.fn.feed.to_come l.feed.to_come l.fn.outlets l.outlets
