use Rattle.std.proofs.Common.{◌≡◌, ◌<◌, ◌≤◌, [], true, false, length, take}
use Rattle.cube_core.specs.Group.{total_of}
use Rattle.cube_core.specs.Merged.{numbers_of}
use Rattle.cube_merge.specs.Total.{IsTotal}
use Rattle.cube_merge.proofs.gather.sum_of.Given as goal

abbrev pub invariant-loop-place : goal.invariant-loop-place
invariant-loop-place l = record {
  sum : IsTotal (total_of (numbers_of (take l.place l.answers))) l.total;
  null : l.is_null ≡ true → numbers_of (take l.place l.answers) ≡ [];
  some : l.is_null ≡ false → 0 < length (numbers_of (take l.place l.answers));
  ups : l.total.ups ≤ l.place;
  downs : l.total.downs ≤ l.place;
}
