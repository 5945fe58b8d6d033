use Rattle.std.proofs.Common.{◌≡◌, ◌<◌, ℕ, false, get_or, length, take}
use Rattle.cube_merge.specs.Joint.{HaveRows, rows_of}
use Rattle.cube_merge.specs.Merging.{IsUse, nothing_left, used_rows}
use Rattle.cube_merge.proofs.step.find_used.Given as goal

abbrev pub invariant-loop-place : goal.invariant-loop-place
invariant-loop-place g l = record {
  width : length l.used.items ≡ l.place;
  uses : (k : ℕ) → k < l.place → IsUse l.key (get_or l.used.items k false) (get_or l.inputs k nothing_left);
  rows : rows_of l.inputs l.places.items ≡ used_rows l.used.items (take l.place l.inputs);
  have_rows : HaveRows l.inputs l.places.items;
}
