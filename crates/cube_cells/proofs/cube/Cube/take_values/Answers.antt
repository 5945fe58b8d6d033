use Rattle.std.proofs.Common.{◌-◌, ◌≡◌, ◌++◌, List, ap, arith, drop, length, rules, take}
use Rattle.cube_cells.specs.Coded.{lattice_of}
use Rattle.cube_cells.specs.CountedCube.{first_fact}
use Rattle.cube_cells.specs.Cube.{TakesFact}
use Rattle.cube_cells.specs.Levels.{IsLeveled, cells_of}
use Rattle.cube_cells.specs.declared.cube.levels.Level.{Level}
use Rattle.cube_cells.proofs.Tallies.ValueLaws.{take-append-drop}
use Rattle.cube_cells.proofs.CountedCubeLaws.{first_fact-long}
use Rattle.cube_cells.proofs.Codes.KeyLaws.{HasFactCodes}
use Rattle.cube_cells.proofs.Cells.LeveledLaws.{All-level_holds, IsLeveled-TakesFact}
use Rattle.cube_cells.proofs.Cells.TableLaws.{AllZip-ChangesFirst}
use Rattle.cube_cells.specs.Levels.{TakesInLevel}
use Rattle.cube_cells.proofs.cube.Cube.take_values.Goals.{After-codes_of_values-codes, After-take_from_sets}
use Rattle.cube_cells.proofs.cube.Cube.take_values.Goals as goal

coded : (c : After-codes_of_values-codes)
    → HasFactCodes c.self.inside.dictionaries.items (first_fact (length c.self.inside.schema.dimensions) c.args.values.now c.args.measures.now) c.codes_of_values-codes.result
coded c = record {
  are = rw (c.deref.ensures.value, c.self.invariant.coded.lattice.dictionaries) at c.codes_of_values-codes.ensures.codes;
  eight = c.codes_of_values-codes.ensures.eight;
}

pub codes_of_values-codes-requires-clause-width : goal.codes_of_values-codes-requires-clause-width
codes_of_values-codes-requires-clause-width c =
    let held = rw (← c.self.view_is) at c.requires in
    let long = first_fact-long c.self.inside.schema c.args.values.now c.args.measures.now
    held.fits in
    omega (arith, ap length c.deref.ensures.value, c.self.invariant.coded.lattice.dictionaries, long)

pub take_from_sets-requires-clause-held : goal.take_from_sets-requires-clause-held
take_from_sets-requires-clause-held c =
    let held = All-level_holds c.self.invariant (rw (← c.self.view_is) at c.requires)
    (coded (goal.at.take_from_sets-requires-clause-held c).After-codes_of_values-codes) in
    rw (c.deref_mut.ensures.value) (λ i unused inside. held i unused (omega (arith, inside)))

-- the levels of the cube are the changed ones
back : (c : After-take_from_sets) → take c.self.inside.levels.len
    (c.take_from_sets.new.levels ++ drop (length c.take_from_sets.new.levels) c.self.inside.levels.items)
    ≡ c.take_from_sets.new.levels
back c = take-append-drop c.self.inside.levels.items c.take_from_sets.new.levels c.self.inside.levels.len (search rules)
    (omega (arith, ap (λ (l : List (Level _)). length l) c.deref_mut.ensures.value))

taken : (c : After-take_from_sets)
    → HasFactCodes c.self.inside.dictionaries.items (first_fact (length c.self.inside.schema.dimensions) c.args.values.now c.args.measures.now) c.codes_of_values-codes.result
    → IsLeveled c.self.inside.schema c.self.inside.sets.items (c.self.inside.facts - 1)
    c.self.inside.dictionaries.items c.take_from_sets.new.levels × TakesFact (first_fact (length c.args.self.now.schema.dimensions) c.args.values.now c.args.measures.now) c.args.self.now
    (lattice_of c.self.inside.schema c.self.inside.sets.items (c.self.inside.facts - 1) c.self.inside.dictionaries.items
    (cells_of c.take_from_sets.new.levels))
taken c has =
    let takes = rw (c.deref_mut.ensures.value) at c.take_from_sets.ensures in
    let all = AllZip-ChangesFirst (TakesInLevel c.codes_of_values-codes.result c.args.measures.now)
    c.self.inside.levels.items c.take_from_sets.new.levels c.len-number.result
    (omega (arith, c.len-number.ensures)) takes in
    rw (← c.self.view_is)
    (IsLeveled-TakesFact c.take_from_sets.new.levels c.self.invariant (rw (← c.self.view_is) at c.requires) has all)

pub invariant_of-self : goal.invariant_of-self
invariant_of-self c =
    let at = goal.at.invariant_of-self c in
    rw (back at.After-take_from_sets) (taken at.After-take_from_sets (coded at.After-codes_of_values-codes)).0

pub returns : goal.returns
returns c =
    let at = goal.at.returns c in
    rw (back at.After-take_from_sets) (taken at.After-take_from_sets (coded at.After-codes_of_values-codes)).1
