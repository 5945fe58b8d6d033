use Rattle.cube_cells.proofs.CountedCubeLaws.{HasCounted-IsPermutation, fits-counted_by}
use Rattle.cube_cells.proofs.laws.counted_cubes_follow_facts.Goals as goal

pub returns : goal.returns
returns c = record {
  moved = HasCounted-IsPermutation;
  fit = fits-counted_by;
}
