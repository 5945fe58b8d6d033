use Rattle.std.specs.List.{AllZip}
use Rattle.cube_merge.specs.Merging.{TookHeader}
use Rattle.cube_merge.proofs.cubes.open_inputs.Given as goal

abbrev pub invariant-loop-reader : goal.invariant-loop-reader
invariant-loop-reader g l = AllZip (TookHeader g.R.Read.remaining l.header) l.yielded l.inputs.items
