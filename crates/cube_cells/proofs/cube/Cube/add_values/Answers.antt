use Rattle.std.proofs.Common.{List, ◌≡◌, ◌+◌, ◌++◌, ap, arith, drop, inr, length, rules, take}
use Rattle.cube_cells.specs.Coded.{lattice_of}
use Rattle.cube_cells.specs.CountedCube.{first_fact}
use Rattle.cube_cells.specs.Cube.{AddsFact, AddsTexts, SameCells}
use Rattle.cube_cells.proofs.CountedCubeLaws.{first_fact-long}
use Rattle.cube_cells.proofs.Codes.GrowthLaws.{AreGrown-MayAddTexts, AreGrown-AddsTexts}
use Rattle.cube_cells.proofs.Cells.LeveledLaws.{All-HasRoomInLevel, IsLeveled-AddsFact, IsLeveled-SameCells}
use Rattle.cube_cells.proofs.Cells.LeveledLaws.{IsLeveled-SameCells_from_AreGrown}
use Rattle.cube_cells.proofs.Cells.StepLaws.{HasNewCodes}
use Rattle.cube_cells.proofs.Tallies.ValueLaws.{take-append-drop}
use Rattle.cube_cells.proofs.Cells.WalkLaws.{OnErr-always}
use Rattle.cube_cells.proofs.cube.Cube.add_values.Goals.{After-add_codes, After-add_to_sets, In_err-codes, In_ok-codes}
use Rattle.cube_cells.proofs.cube.Cube.add_values.Goals.{In_err-add_to_sets, In_ok-add_to_sets}
use Rattle.cube_cells.specs.Levels.{IsLeveled, cells_of}
use Rattle.cube_cells.specs.declared.cube.levels.Level.{Level}
use Rattle.cube_cells.proofs.cube.Cube.add_values.Goals as goal

-- the dictionaries of the cube are the changed ones
back : (c : After-add_codes) → take c.self.inside.dictionaries.len
    (c.add_codes.new.dictionaries ++ drop (length c.add_codes.new.dictionaries) c.self.inside.dictionaries.items)
    ≡ c.add_codes.new.dictionaries
back c = take-append-drop c.self.inside.dictionaries.items c.add_codes.new.dictionaries c.self.inside.dictionaries.len
    (search rules) (omega (arith, ap length c.deref_mut.ensures.value))

-- so are its levels
back_levels : (c : After-add_to_sets) → take c.self.inside.levels.len
    (c.add_to_sets.new.levels ++ drop (length c.add_to_sets.new.levels) c.self.inside.levels.items)
    ≡ c.add_to_sets.new.levels
back_levels c = take-append-drop c.self.inside.levels.items c.add_to_sets.new.levels c.self.inside.levels.len
    (search rules) (omega (arith, ap (λ (l : List (Level _)). length l) c.deref_mut-2.ensures.value))

-- ---- no room for a text
refused : (c : In_err-codes) → IsLeveled c.self.inside.schema c.self.inside.sets.items c.self.inside.facts
    c.add_codes.new.dictionaries c.self.inside.levels.items × SameCells c.args.self.now
    (lattice_of c.self.inside.schema c.self.inside.sets.items c.self.inside.facts c.add_codes.new.dictionaries
    (cells_of c.self.inside.levels.items))
refused c =
    let grown = AreGrown-MayAddTexts (take (length c.self.inside.schema.dimensions) c.args.values.now) c.self.inside.dictionaries.items c.add_codes.new.dictionaries
    (omega (arith, ap length c.deref_mut.ensures.value)) (rw (c.deref_mut.ensures.value, c.self.invariant.coded.lattice.dictionaries) at c.in_err-codes.ensures.err) in
    rw (← c.self.view_is) (IsLeveled-SameCells_from_AreGrown c.add_codes.new.dictionaries c.self.invariant grown
    ((rw c.deref_mut.ensures.value at c.in_err-codes.ensures.dictionaries) c.self.invariant.coded.texts))

pub invariant_of-self : goal.invariant_of-self
invariant_of-self c = let at = goal.at.invariant_of-self c in rw (back at.After-add_codes) (refused at.In_err-codes).0

pub returns-in_err-codes-clause-err : goal.returns-in_err-codes-clause-err
returns-in_err-codes-clause-err c =
    let at = goal.at.returns-in_err-codes-clause-err c in
    OnErr-always c.from_residual.result (rw (back at.After-add_codes) (refused at.In_err-codes).1)

-- ---- each text of the fact has a code
coded : (c : In_ok-codes)
    → HasNewCodes c.self.inside.dictionaries.items c.add_codes.new.dictionaries (first_fact (length c.self.inside.schema.dimensions) c.args.values.now c.args.measures.now) c.in_ok-codes.codes
coded c = record {
  grown = AreGrown-AddsTexts (take (length c.self.inside.schema.dimensions) c.args.values.now) c.self.inside.dictionaries.items c.add_codes.new.dictionaries
      (omega (arith, ap length c.deref_mut.ensures.value))
      (rw (c.deref_mut.ensures.value, c.self.invariant.coded.lattice.dictionaries) at c.in_ok-codes.ensures.texts);
  all = (rw c.deref_mut.ensures.value at c.in_ok-codes.ensures.dictionaries) c.self.invariant.coded.texts;
  has = record { are = rw (c.deref_mut.ensures.value, c.self.invariant.coded.lattice.dictionaries) at c.in_ok-codes.ensures.codes; eight = c.in_ok-codes.ensures.eight };
  valid = c.in_ok-codes.ensures.valid;
}

pub add_codes-requires-clause-width : goal.add_codes-requires-clause-width
add_codes-requires-clause-width c =
    let long = first_fact-long c.self.inside.schema c.args.values.now c.args.measures.now
    (rw (← c.self.view_is) at c.requires.fits) in
    omega (arith, ap length c.deref_mut.ensures.value, c.self.invariant.coded.lattice.dictionaries, long)

pub add_to_sets-requires : goal.add_to_sets-requires
add_to_sets-requires c =
    let has = coded (goal.at.add_to_sets-requires c).In_ok-codes in
    let can = All-HasRoomInLevel c.self.invariant (rw (← c.self.view_is) at c.requires.fits)
    (rw (← c.self.view_is) at c.requires.room) has in
    rw (c.deref_mut-2.ensures.value) can

-- ---- no room for a cell
refused_cells : (c : In_err-add_to_sets)
    → HasNewCodes c.self.inside.dictionaries.items c.add_codes.new.dictionaries (first_fact (length c.self.inside.schema.dimensions) c.args.values.now c.args.measures.now) c.in_ok-codes.codes
    → IsLeveled c.self.inside.schema c.self.inside.sets.items c.self.inside.facts c.add_codes.new.dictionaries
    c.add_to_sets.new.levels × SameCells c.args.self.now
    (lattice_of c.self.inside.schema c.self.inside.sets.items c.self.inside.facts c.add_codes.new.dictionaries
    (cells_of c.add_to_sets.new.levels))
refused_cells c has =
    rw (← c.self.view_is) (IsLeveled-SameCells c.add_to_sets.new.levels c.self.invariant
    (rw (← c.self.view_is) at c.requires.fits) has (rw c.deref_mut-2.ensures.value at c.in_err-add_to_sets.ensures.err))

pub invariant_of-self-in_err-add_to_sets : goal.invariant_of-self-in_err-add_to_sets
invariant_of-self-in_err-add_to_sets c =
    let at = goal.at.invariant_of-self-in_err-add_to_sets c in
    rw (
      back at.After-add_codes,
      back_levels at.After-add_to_sets,
    ) (refused_cells at.In_err-add_to_sets (coded at.In_ok-codes)).0

pub returns-in_err-add_to_sets-clause-err : goal.returns-in_err-add_to_sets-clause-err
returns-in_err-add_to_sets-clause-err c =
    let at = goal.at.returns-in_err-add_to_sets-clause-err c in
    OnErr-always c.from_residual-in_err-add_to_sets.result (rw (
      back at.After-add_codes,
      back_levels at.After-add_to_sets,
    ) (refused_cells at.In_err-add_to_sets (coded at.In_ok-codes)).1)

-- ---- the fact is added
added : (c : In_ok-add_to_sets)
    → HasNewCodes c.self.inside.dictionaries.items c.add_codes.new.dictionaries (first_fact (length c.self.inside.schema.dimensions) c.args.values.now c.args.measures.now) c.in_ok-codes.codes
    → IsLeveled c.self.inside.schema c.self.inside.sets.items (c.self.inside.facts + 1)
    c.add_codes.new.dictionaries c.add_to_sets.new.levels × AddsFact (first_fact (length c.args.self.now.schema.dimensions) c.args.values.now c.args.measures.now) c.args.self.now
    (lattice_of c.self.inside.schema c.self.inside.sets.items (c.self.inside.facts + 1) c.add_codes.new.dictionaries
    (cells_of c.add_to_sets.new.levels))
added c has =
    let adds = rw (c.deref_mut-2.ensures.value) at c.in_ok-add_to_sets.ensures.added in
    rw (← c.self.view_is)
    (IsLeveled-AddsFact c.add_to_sets.new.levels c.self.invariant (rw (← c.self.view_is) at c.requires.fits) has adds)

pub invariant_of-self-2 : goal.invariant_of-self-2
invariant_of-self-2 c =
    let at = goal.at.invariant_of-self-2 c in
    rw (back at.After-add_codes, back_levels at.After-add_to_sets) (added at.In_ok-add_to_sets (coded at.In_ok-codes)).0

pub returns-clause-added : goal.returns-clause-added
returns-clause-added c =
    let at = goal.at.returns-clause-added c in
    rw (back at.After-add_codes, back_levels at.After-add_to_sets) (added at.In_ok-add_to_sets (coded at.In_ok-codes)).1

pub returns-clause-texts : goal.returns-clause-texts
returns-clause-texts c =
    let at = goal.at.returns-clause-texts c in
    rw (back at.After-add_codes, ← c.self.view_is) (rw (c.deref_mut.ensures.value, c.self.invariant.coded.lattice.dictionaries) at c.in_ok-codes.ensures.texts)

pub returns-in_err-codes-clause-err_texts : goal.returns-in_err-codes-clause-err_texts
returns-in_err-codes-clause-err_texts c =
    let at = goal.at.returns-in_err-codes-clause-err_texts c in
    OnErr-always c.from_residual.result
    (rw (back at.After-add_codes, ← c.self.view_is) (rw (c.deref_mut.ensures.value, c.self.invariant.coded.lattice.dictionaries) at c.in_err-codes.ensures.err))

pub returns-in_err-add_to_sets-clause-err_texts : goal.returns-in_err-add_to_sets-clause-err_texts
returns-in_err-add_to_sets-clause-err_texts c =
    let at = goal.at.returns-in_err-add_to_sets-clause-err_texts c in
    let texts : AddsTexts (take (length c.self.inside.schema.dimensions) c.args.values.now) c.self.inside.dictionaries.items c.add_codes.new.dictionaries =
    rw (c.deref_mut.ensures.value, c.self.invariant.coded.lattice.dictionaries) at c.in_ok-codes.ensures.texts in
    OnErr-always c.from_residual-in_err-add_to_sets.result
    (rw (back at.After-add_codes, ← c.self.view_is) (λ d. inr (texts d)))
