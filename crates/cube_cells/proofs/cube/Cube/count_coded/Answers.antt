use Rattle.std.proofs.Common.{List, ◌≡◌, ◌+◌, ◌++◌, ap, arith, drop, length, rules, take}
use Rattle.cube_cells.specs.Coded.{lattice_of}
use Rattle.cube_cells.specs.Cube.{AddsFact}
use Rattle.cube_cells.specs.Levels.{IsLeveled, cells_of}
use Rattle.cube_cells.specs.declared.cube.levels.Level.{Level}
use Rattle.cube_cells.proofs.Cells.LeveledLaws.{All-HasRoomInLevel, IsLeveled-AddsFact, IsLeveled-none}
use Rattle.cube_cells.proofs.Cells.SchemaLaws.{its_schema}
use Rattle.cube_cells.proofs.Cells.StepLaws.{HasNewCodes}
use Rattle.cube_cells.proofs.Codes.GrowthLaws.{AreGrown-refl}
use Rattle.cube_cells.proofs.Tallies.ValueLaws.{take-append-drop}
use Rattle.cube_cells.proofs.cube.Cube.count_coded.Given.{Over}
use Rattle.cube_cells.proofs.cube.Cube.count_coded.Goals.{After-self, After-gather_in_sets, In-Ok}
use Rattle.cube_cells.proofs.cube.Cube.count_coded.Goals as goal

-- the levels of the cube are the changed ones
back : (g : Over) (c : After-gather_in_sets g) → take c.self.inside.levels.len
    (c.gather_in_sets.new.levels ++ drop (length c.gather_in_sets.new.levels) c.self.inside.levels.items)
    ≡ c.gather_in_sets.new.levels
back g c = take-append-drop c.self.inside.levels.items c.gather_in_sets.new.levels c.self.inside.levels.len
    (search rules) (omega (arith, ap (λ (l : List (Level _)). length l) c.deref_mut.ensures.value))

-- the dictionaries give the fact its codes
coded : (g : Over) (c : After-self g)
    → HasNewCodes c.self.inside.dictionaries.items c.self.inside.dictionaries.items c.args.fact.now c.args.codes.now
coded g c =
    let of = rw (← c.self.view_is) at c.requires.codes in
    record {
      grown = AreGrown-refl c.self.inside.dictionaries.items;
      all = c.self.invariant.coded.texts;
      has = record { are = of.are; eight = of.eight };
      valid = of.valid;
    }

pub gather_in_sets-requires : goal.gather_in_sets-requires
gather_in_sets-requires g c =
    let has = coded g (goal.at.gather_in_sets-requires g c).After-self in
    let can = All-HasRoomInLevel c.self.invariant (rw (← c.self.view_is) at c.requires.fits)
    (rw (← c.self.view_is) at c.requires.room) has in
    rw (c.deref_mut.ensures.value, c.as_slice-values.ensures) can

-- ---- no room for a cell
pub invariant_of-self : goal.invariant_of-self
invariant_of-self g c =
    IsLeveled-none c.self.inside.schema _ c.self.inside.dictionaries.items _ (its_schema c.self.invariant.coded.lattice)
    c.self.invariant.coded.lattice.dictionaries c.self.invariant.coded.texts (search rules) (search rules)

-- ---- the fact is added
added : (g : Over) (c : In-Ok g)
    → HasNewCodes c.self.inside.dictionaries.items c.self.inside.dictionaries.items c.args.fact.now c.args.codes.now
    → IsLeveled c.self.inside.schema c.self.inside.sets.items (c.self.inside.facts + 1)
    c.self.inside.dictionaries.items c.gather_in_sets.new.levels × AddsFact c.args.fact.now c.args.self.now
    (lattice_of c.self.inside.schema c.self.inside.sets.items (c.self.inside.facts + 1)
    c.self.inside.dictionaries.items (cells_of c.gather_in_sets.new.levels))
added g c has =
    let adds = rw (c.deref_mut.ensures.value, c.as_slice-values.ensures) at c.in-Ok.ensures in
    rw (← c.self.view_is)
    (IsLeveled-AddsFact c.gather_in_sets.new.levels c.self.invariant (rw (← c.self.view_is) at c.requires.fits) has
    adds)

pub invariant_of-self-2 : goal.invariant_of-self-2
invariant_of-self-2 g c =
    let at = goal.at.invariant_of-self-2 g c in
    rw (back g at.After-gather_in_sets) (added g at.In-Ok (coded g at.After-self)).0

pub returns-clause-added : goal.returns-clause-added
returns-clause-added g c =
    let at = goal.at.returns-clause-added g c in
    rw (back g at.After-gather_in_sets) (added g at.In-Ok (coded g at.After-self)).1
