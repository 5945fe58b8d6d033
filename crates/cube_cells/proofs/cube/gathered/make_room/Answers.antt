use Rattle.std.proofs.Common.{List, ◌≡◌, ◌++◌, ap, arith, drop, length, rules, take}
use Rattle.cube_cells.specs.Coded.{lattice_of}
use Rattle.cube_cells.specs.Cube.{SameCells}
use Rattle.cube_cells.specs.Levels.{IsLeveled, cells_of}
use Rattle.cube_cells.specs.declared.cube.levels.Level.{Level}
use Rattle.cube_cells.proofs.Filling.MovedLaws.{IsLeveled-IsReordered}
use Rattle.cube_cells.proofs.Tallies.ValueLaws.{take-append-drop}
use Rattle.cube_cells.proofs.cube.gathered.make_room.Given.{Over}
use Rattle.cube_cells.proofs.cube.gathered.make_room.Goals.{After-reserve_in_levels}
use Rattle.cube_cells.proofs.cube.gathered.make_room.Goals as goal

-- the levels of the cube are the changed ones
back : (g : Over) (c : After-reserve_in_levels g) → take c.cube.inside.levels.len
    (c.reserve_in_levels.new.levels ++ drop (length c.reserve_in_levels.new.levels) c.cube.inside.levels.items)
    ≡ c.reserve_in_levels.new.levels
back g c = take-append-drop c.cube.inside.levels.items c.reserve_in_levels.new.levels c.cube.inside.levels.len
    (search rules) (omega (arith, ap (λ (l : List (Level _)). length l) c.deref_mut.ensures.value))

-- they have the same cells
moved : (g : Over) (c : After-reserve_in_levels g)
    → IsLeveled c.cube.inside.schema c.cube.inside.sets.items c.cube.inside.facts c.cube.inside.dictionaries.items
    c.reserve_in_levels.new.levels
    × SameCells c.args.cube.now (lattice_of c.cube.inside.schema c.cube.inside.sets.items c.cube.inside.facts
    c.cube.inside.dictionaries.items (cells_of c.reserve_in_levels.new.levels))
moved g c = rw (← c.cube.view_is) (IsLeveled-IsReordered c.reserve_in_levels.new.levels c.cube.invariant
    (rw c.deref_mut.ensures.value at c.reserve_in_levels.ensures))

pub invariant_of-cube : goal.invariant_of-cube
invariant_of-cube g c =
    let at = (goal.at.invariant_of-cube g c).After-reserve_in_levels in
    rw (back g at) (moved g at).0

pub returns-clause-same : goal.returns-clause-same
returns-clause-same g c =
    let at = (goal.at.returns-clause-same g c).After-reserve_in_levels in
    rw (back g at) (moved g at).1
