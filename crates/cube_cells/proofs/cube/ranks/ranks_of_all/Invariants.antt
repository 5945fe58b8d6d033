use Rattle.std.proofs.Common.{take}
use Rattle.cube_cells.specs.Ranks.{AreAllRanks}
use Rattle.cube_cells.proofs.cube.ranks.ranks_of_all.Given as goal

abbrev pub invariant-loop-dictionary : goal.invariant-loop-dictionary
invariant-loop-dictionary l = AreAllRanks (take l.dictionary-index l.dictionaries) l.ranks.items
