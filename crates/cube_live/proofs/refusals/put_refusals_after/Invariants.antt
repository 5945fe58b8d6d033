use Rattle.std.proofs.Common.{take}
use Rattle.std.specs.Prelude.{filter}
use Rattle.std.specs.List.{flat_map}
use Rattle.cube_core.specs.Text.{refusal_line}
use Rattle.cube_text.specs.Lines.{AddsText}
use Rattle.cube_live.specs.Shows.{is_after}
use Rattle.cube_live.proofs.refusals.put_refusals_after.Given as goal

abbrev pub invariant-loop-refusal : goal.invariant-loop-refusal
invariant-loop-refusal l =
    AddsText (flat_map (refusal_line l.source) (filter (is_after l.number) (take l.refusal-index l.refusals)))
    l.initial.lines l.lines
