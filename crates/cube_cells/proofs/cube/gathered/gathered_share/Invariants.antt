use Rattle.std.proofs.Common.{◌≤◌, ◌-◌, ℕ, length, map, take}
use Rattle.cube_core.specs.Layout.{cube_schema}
use Rattle.cube_cells.specs.Gathered.{AreMarks, HasGatheredShare}
use Rattle.cube_cells.proofs.cube.gathered.gathered_share.Given as goal

abbrev pub invariant-loop-done : goal.invariant-loop-done
invariant-loop-done g l = record {
  within : l.done ≤ length l.facts;
  has : (shares : ℕ) → AreMarks shares (map (λ fact. fact.now) l.facts) l.marks
      → HasGatheredShare (cube_schema l.schema) (take l.done (map (λ fact. fact.now) l.facts)) shares l.share l.cube;
}

abbrev pub decreases-loop-done : goal.decreases-loop-done
decreases-loop-done g l = length l.facts - l.done
