use Rattle.std.proofs.Common.{◌≡◌, drop}
use Rattle.cube_merge.specs.NextLine.{is_quoted_after}
use Rattle.cube_merge.proofs.read.is_quoted_after.Given as goal

abbrev pub invariant-loop-byte : goal.invariant-loop-byte
invariant-loop-byte l =
    is_quoted_after l.quoted (drop l.byte-index (drop l.from l.line)) ≡ is_quoted_after l.is_quoted (drop l.from l.line)
