use Rattle.std.proofs.Common.{◌≤◌, drop}
use Rattle.csv.specs.declared.parser.State.{State}
use Rattle.cube_console.specs.Ends.{IsAt}
use Rattle.cube_console.proofs.EndsLaws.{Goes}
use Rattle.cube_console.proofs.place.records_in.Given as goal

abbrev pub invariant-loop-byte : goal.invariant-loop-byte
invariant-loop-byte l = record {
  within : l.count ≤ l.byte-index;
  goes : (s : State) → IsAt s l.fn.place → Goes s l.now l.count l.bytes (drop l.byte-index l.bytes);
}
