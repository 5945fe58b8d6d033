use Rattle.std.proofs.Common.{take}
use Rattle.cube_console.specs.JsonLinesMade.{Makes}
use Rattle.cube_console.specs.RecordsRead.{IsWhole}
use Rattle.cube_console.proofs.views.lines.JsonLines.take_record.Given as goal

abbrev pub invariant-loop-place : goal.invariant-loop-place
invariant-loop-place l = IsWhole l.initial.self.records → Makes l.initial.self l.self (take l.place l.bytes)
