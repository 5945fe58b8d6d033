use Rattle.cube_cells.specs.Ranks.{LeadBack}
use Rattle.cube_cells.proofs.cube.ranks.ranks_in_order.Given as goal

abbrev pub invariant-loop-rank : goal.invariant-loop-rank
invariant-loop-rank l = LeadBack l.rank l.places l.ranks.items
