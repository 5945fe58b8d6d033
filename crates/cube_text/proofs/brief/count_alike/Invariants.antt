use Rattle.std.proofs.Common.{◌≤◌, ◌-◌, length, take}
use Rattle.cube_text.specs.Brief.{AreAlike}
use Rattle.cube_text.proofs.brief.count_alike.Given as goal

abbrev pub invariant-loop-count : goal.invariant-loop-count
invariant-loop-count l = record {
  few : l.count ≤ length l.keys;
  alike : AreAlike l.codes (take l.count l.keys);
}

abbrev pub decreases-loop-count : goal.decreases-loop-count
decreases-loop-count l = length l.keys - l.count
