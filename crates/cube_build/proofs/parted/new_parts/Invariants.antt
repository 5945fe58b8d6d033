use Rattle.std.proofs.Common.{◌≡◌, length}
use Rattle.cube_build.specs.Parted.{ArePartsFor}
use Rattle.cube_build.proofs.parted.new_parts.Given as goal

abbrev pub invariant-loop-part : goal.invariant-loop-part
invariant-loop-part l = record {
  long : length l.new.items ≡ l.part;
  over : ArePartsFor l.ledger.schema l.parts l.new.items;
}
