use Rattle.std.proofs.Common.{◌≡◌, ◌++◌, length, map, take, drop}
use Rattle.cube_cells.specs.Ranks.{ranks_of}
use Rattle.cube_cells.proofs.cube.ranks.ranked_codes.Given as goal

abbrev pub invariant-loop-place : goal.invariant-loop-place
invariant-loop-place l = record {
  eight : length l.found ≡ 8;
  so_far : take l.place l.found ++ ranks_of (map (λ one. one.ranks) (drop l.place l.ranked)) (drop l.place l.found)
      ≡ ranks_of (map (λ one. one.ranks) l.ranked) l.codes.codes;
}
