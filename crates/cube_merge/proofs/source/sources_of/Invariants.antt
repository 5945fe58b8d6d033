use Rattle.std.proofs.Common.{take}
use Rattle.std.specs.List.{AllZip}
use Rattle.cube_merge.specs.Source.{IsSourceOf}
use Rattle.cube_merge.proofs.source.sources_of.Given as goal

abbrev pub invariant-loop-aggregate : goal.invariant-loop-aggregate
invariant-loop-aggregate l = AllZip (IsSourceOf l.given) (take l.aggregate-index l.wanted) l.sources.items
