use Rattle.std.proofs.Common.{◌≡◌, ◌++◌, length, take, drop}
use Rattle.cube_cells.specs.Ranks.{ranks_of}
use Rattle.cube_cells.proofs.cube.ranks.ranks_of.Given as goal

abbrev pub invariant-loop-place : goal.invariant-loop-place
invariant-loop-place l = record {
  eight : length l.found ≡ 8;
  so_far : take l.place l.found ++ ranks_of (drop l.place l.ranks) (drop l.place l.found)
      ≡ ranks_of l.ranks l.codes.codes;
}
