use Rattle.std.proofs.Common.{◌≡◌, vec_len}
use Rattle.datacube.proofs.own_files.open_files.Given as goal

abbrev pub invariant-loop-path : goal.invariant-loop-path
invariant-loop-path l = vec_len l.files ≡ l.path-index
