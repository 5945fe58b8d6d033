use Rattle.std.proofs.Common.{◌≡◌, vec_len}
use Rattle.datacube.proofs.kept.noted_feeds.Given as goal

abbrev pub invariant-loop-path : goal.invariant-loop-path
invariant-loop-path l = vec_len l.readers ≡ l.path-index
