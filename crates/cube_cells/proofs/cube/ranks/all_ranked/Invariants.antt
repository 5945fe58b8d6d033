use Rattle.cube_cells.specs.Ranking.{AreRankings}
use Rattle.cube_cells.proofs.cube.ranks.all_ranked.Given as goal

abbrev pub invariant-loop-dictionary : goal.invariant-loop-dictionary
invariant-loop-dictionary l = AreRankings l.yielded l.ranked.items
