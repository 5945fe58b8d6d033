use Rattle.std.proofs.Common.{rules}
use Rattle.cube_values.specs.Values.{bag_of}
use Rattle.cube_values.proofs.NarrowLaws.{SameHeld-AddsBag_nothing}
use Rattle.cube_values.proofs.GrownLaws.{SameHeld-from_equal}
use Rattle.cube_values.proofs.counted.copy_of_larger.Goals.{
  in-One-Few+in_ok-copy-in-One-Few,
  in-One-Narrow+in_ok-copy-in-One-Narrow,
  in-One-Ordered+in_ok-copy-in-One-Ordered,
  in-Few-Few+in_ok-of_both-in-Few-Few,
  in-One-Logged+in_ok-copy-in-One-Logged,
}
use Rattle.cube_values.proofs.counted.copy_of_larger.Goals as goal

pub returns : goal.returns
returns c = elim c.match-values.branch [
  | in-One-Few+in_ok-copy-in-One-Few w ↦
      SameHeld-from_equal (bag_of c.args.more.now) (bag_of c.match-values.copy) (search rules)
  | in-One-Narrow+in_ok-copy-in-One-Narrow w ↦
      SameHeld-from_equal (bag_of c.args.more.now) (bag_of c.match-values.copy) (search rules)
  | in-One-Ordered+in_ok-copy-in-One-Ordered w ↦ search rules
  | in-Few-Few+in_ok-of_both-in-Few-Few w ↦
      SameHeld-AddsBag_nothing (bag_of c.args.more.now) (bag_of c.match-values.copy) (search rules)
  | in-One-Logged+in_ok-copy-in-One-Logged w ↦
      SameHeld-from_equal (bag_of c.args.more.now) (bag_of c.match-values.copy) (search rules)
]
