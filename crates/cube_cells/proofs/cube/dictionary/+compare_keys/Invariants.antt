use Rattle.std.proofs.Common.{length}
use Rattle.cube_cells.proofs.cube.dictionary.+compare_keys.Given as goal

abbrev pub decreases-compare_keys : goal.decreases-compare_keys
decreases-compare_keys l = length l.dictionaries.now
