use Rattle.cube_text.specs.Lines.{AddsText}
use Rattle.cube_live.proofs.RefusalLaws.{lines_up_to}
use Rattle.cube_live.proofs.refusals.put_all_refusals.Given as goal

abbrev pub invariant-loop-place : goal.invariant-loop-place
invariant-loop-place l = AddsText (lines_up_to l.ledger.accounts l.place) l.initial.lines l.lines
