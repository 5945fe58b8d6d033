use Rattle.std.proofs.Common.{take, map}
use Rattle.std.specs.List.{AllZip}
use Rattle.cube_cells.specs.Gathered.{AreCodesOfFact, OnlyAddsTexts}
use Rattle.cube_cells.proofs.cube.gathered.code_all.Given as goal

abbrev pub invariant-loop-fact : goal.invariant-loop-fact
invariant-loop-fact g l = record {
  same : OnlyAddsTexts l.fn.cube l.cube;
  codes : AllZip (AreCodesOfFact l.cube.dictionaries) (take l.fact-index (map (λ fact. fact.now) l.facts))
      l.codes.items;
}
