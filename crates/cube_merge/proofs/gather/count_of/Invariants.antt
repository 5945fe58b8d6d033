use Rattle.std.proofs.Common.{◌≡◌, ◌<◌, ◌^◌, take}
use Rattle.cube_core.specs.Merged.{sum_of_counts}
use Rattle.cube_merge.proofs.gather.count_of.Given as goal

abbrev pub invariant-loop-place : goal.invariant-loop-place
invariant-loop-place l = record {
  sum : l.count ≡ sum_of_counts (take l.place l.answers);
  fits : l.count < 2 ^ 64;
}
