use Rattle.std.proofs.Common.{List, ◌≡◌, ◌++◌, ap, arith, drop, length, map, rules, take, true, ℕ}
use Rattle.std.specs.Prelude.{All, Err, IfOk, OnErr, OnOk, Ok, Option, Result}
use Rattle.std.proofs.lemmas.List.{take_all}
use Rattle.cube_core.specs.declared.fact.Fact.{Fact}
use Rattle.cube_core.proofs.CellKeyLaws.{fits-length}
use Rattle.cube_cells.specs.Codes.{AreCodesOf, Dictionaries, IsDictionary, are_codes, coord_of_value}
use Rattle.cube_cells.specs.Cube.{AddsTexts, MayAddTexts}
use Rattle.cube_cells.specs.Gathered.{AreCodesOfFact}
use Rattle.cube_cells.specs.declared.cube.codes.Codes.{Codes}
use Rattle.cube_cells.proofs.Cells.LeveledLaws.{IsLeveled-SameCells_from_AreGrown}
use Rattle.cube_cells.proofs.Codes.GrowthLaws.{AreGrown, AreGrown-AddsTexts, AreGrown-MayAddTexts}
use Rattle.cube_cells.proofs.Filling.GatheredLaws.{OnlyAddsTexts-AreGrown}
use Rattle.cube_cells.proofs.Tallies.ValueLaws.{take-append-drop}
use Rattle.cube_cells.proofs.cube.Cube.code_fact.Given.{Over}
use Rattle.cube_cells.proofs.cube.Cube.code_fact.Goals.{After-add_codes}
use Rattle.cube_cells.proofs.cube.Cube.code_fact.Goals as goal

-- the dictionaries of the cube are the changed ones
back : (g : Over) (c : After-add_codes g) → take c.self.inside.dictionaries.len
    (c.add_codes.new.dictionaries ++ drop (length c.add_codes.new.dictionaries) c.self.inside.dictionaries.items)
    ≡ c.add_codes.new.dictionaries
back g c =
    take-append-drop c.self.inside.dictionaries.items c.add_codes.new.dictionaries c.self.inside.dictionaries.len
    (search rules) (omega (arith, ap length c.deref_mut.ensures.value))

-- they have grown, whether there was room for each text or not
AreGrown-either : {E : Type 0} (result : Result Codes E) (values : List (Option (List ℕ))) (old new : Dictionaries)
    → length new ≡ length old → OnOk result (AddsTexts values old new) → OnErr result (MayAddTexts values old new)
    → AreGrown old new
AreGrown-either (Ok codes) values old new lengths adds may = AreGrown-AddsTexts values old new lengths adds
AreGrown-either (Err fault) values old new lengths adds may = AreGrown-MayAddTexts values old new lengths may

-- the values of the fact are as many as the dictionaries
values : (g : Over) (c : After-add_codes g)
    → take (length c.self.inside.dictionaries.items) c.args.fact.now.dims ≡ c.args.fact.now.dims
values g c = take_all (length c.self.inside.dictionaries.items) c.args.fact.now.dims (omega (
  arith,
  fits-length c.self.inside.schema c.args.fact.now (rw (← c.self.view_is) at c.requires.fits),
  c.self.invariant.coded.lattice.dictionaries,
))

grown : (g : Over) (c : After-add_codes g) → AreGrown c.self.inside.dictionaries.items c.add_codes.new.dictionaries
grown g c = AreGrown-either c.add_codes.result c.args.fact.now.dims c.self.inside.dictionaries.items
    c.add_codes.new.dictionaries (omega (arith, ap length c.deref_mut.ensures.value))
    (rw (c.deref_mut.ensures.value, values g c) at c.add_codes.ensures.texts)
    (rw (c.deref_mut.ensures.value, values g c) at c.add_codes.ensures.err)

all : (g : Over) (c : After-add_codes g) → All IsDictionary c.add_codes.new.dictionaries
all g c = (rw c.deref_mut.ensures.value at c.add_codes.ensures.dictionaries) c.self.invariant.coded.texts

pub invariant_of-self : goal.invariant_of-self
invariant_of-self g c =
    let after = (goal.at.invariant_of-self g c).After-add_codes in
    rw (back g after) (IsLeveled-SameCells_from_AreGrown c.add_codes.new.dictionaries c.self.invariant (grown g after)
    (all g after)).0

pub returns-clause-same : goal.returns-clause-same
returns-clause-same g c =
    let after = (goal.at.returns-clause-same g c).After-add_codes in
    rw (back g after, ← c.self.view_is)
    (OnlyAddsTexts-AreGrown c.add_codes.new.dictionaries c.self.invariant (grown g after) (all g after))

-- ---- each text has a code, where there was room
IfOk-AreCodesOfFact : {E : Type 0} (result : Result Codes E) (dictionaries : Dictionaries) (fact : Fact)
    → IfOk result (λ codes. AreCodesOf dictionaries (map coord_of_value fact.dims) codes.codes)
    → IfOk result (λ codes. are_codes dictionaries codes.codes ≡ true) → IfOk result (λ codes. length codes.codes ≡ 8)
    → IfOk result (AreCodesOfFact dictionaries fact)
IfOk-AreCodesOfFact (Ok codes) dictionaries fact are valid eight = record { are = are; eight = eight; valid = valid }
IfOk-AreCodesOfFact (Err fault) dictionaries fact are valid eight = tt

pub returns-clause-codes : goal.returns-clause-codes
returns-clause-codes g c =
    let after = (goal.at.returns-clause-codes g c).After-add_codes in
    rw (back g after) (IfOk-AreCodesOfFact c.add_codes.result c.add_codes.new.dictionaries c.args.fact.now
    (rw (c.deref_mut.ensures.value, values g after) at c.add_codes.ensures.codes) c.add_codes.ensures.valid c.add_codes.ensures.eight)
