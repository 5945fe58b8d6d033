use Rattle.std.proofs.Common.{◌≡◌, vec_len}
use Rattle.cube_tests.proofs.texts.readers_of.Given as goal

abbrev pub invariant-loop-feed : goal.invariant-loop-feed
invariant-loop-feed l = vec_len l.readers ≡ l.feed-index
