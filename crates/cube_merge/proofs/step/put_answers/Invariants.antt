use Rattle.std.proofs.Common.{List, take}
use Rattle.std.specs.List.{AllZip}
use Rattle.cube_core.specs.Merged.{IsMerged}
use Rattle.cube_core.specs.declared.aggregate.Agg.{Agg}
use Rattle.cube_core.specs.declared.key.Row.{Row}
use Rattle.cube_merge.specs.Made.{AreMadeOfRows}
use Rattle.cube_merge.specs.Source.{IsSourceOf}
use Rattle.cube_merge.proofs.step.put_answers.Given as goal

abbrev pub invariant-loop-source : goal.invariant-loop-source
invariant-loop-source l = (given wanted : List Agg) (rows : List Row) → AreMadeOfRows given rows l.made
    → AllZip (IsSourceOf given) wanted (take l.source-index l.sources)
    → AllZip (IsMerged given rows) wanted l.answers.items
