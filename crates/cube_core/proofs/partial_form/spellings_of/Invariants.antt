use Rattle.std.proofs.Common.{◌≡◌, map, take}
use Rattle.cube_core.specs.Layout.{spelling_of}
use Rattle.cube_core.proofs.partial_form.spellings_of.Given as goal

abbrev pub invariant-loop-aggregate : goal.invariant-loop-aggregate
invariant-loop-aggregate l = l.texts.items ≡ map (spelling_of l.measures) (take l.aggregate-index l.aggregates)
