use Rattle.std.proofs.Common.{◌≡◌, ◌==◌, ℕ, filter, map, take}
use Rattle.cube_cells.specs.Gathered.{AreMarks, share_of_fact}
use Rattle.cube_cells.proofs.cube.gathered.pick.Given as goal

abbrev pub invariant-loop-place : goal.invariant-loop-place
invariant-loop-place l = (shares : ℕ) → AreMarks shares (map (λ fact. fact.now) l.facts) l.marks
    → map (λ fact. fact.now) l.picked.items
    ≡ filter (λ fact. share_of_fact shares fact == l.share) (take l.place (map (λ fact. fact.now) l.facts))
