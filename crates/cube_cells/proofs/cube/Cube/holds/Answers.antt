use Rattle.std.proofs.Common.{arith, length, refl, sym, take, ◌≡◌, true}
use Rattle.std.proofs.lemmas.List.{take_all}
use Rattle.cube_core.specs.Takes.{fits}
use Rattle.cube_core.proofs.CellKeyLaws.{fits-length}
use Rattle.cube_cells.proofs.Cells.CubeLaws.{HoldsFact-IsCubeOf}
use Rattle.cube_cells.proofs.Codes.KeyLaws.{HasFactCodes}
use Rattle.cube_cells.proofs.Cells.LeveledLaws.{list_all-level_holds}
use Rattle.cube_cells.proofs.Cells.CodedLaws.{IsCodedFact-IsCoded, cell_holds-HoldsFact}
use Rattle.cube_cells.specs.Levels.{cells_of}
use Rattle.cube_cells.proofs.cube.Cube.holds.Goals as goal

pub returns-clause-held : goal.returns-clause-held
returns-clause-held c =
    let schema = c.self.inside.schema in
    let sets = c.self.inside.sets.items in
    let facts = c.self.inside.facts in
    let dictionaries = c.self.inside.dictionaries.items in
    let cells = (cells_of c.self.inside.levels.items) in
    let codes = c.codes_of_values-codes.result in
    let fit : fits schema c.args.fact.now ≡ true = sym c.if-not-fits.ensures in
    let values : take (length dictionaries) c.args.fact.now.dims ≡ c.args.fact.now.dims =
    take_all (length dictionaries) c.args.fact.now.dims
    (omega (arith, fits-length schema c.args.fact.now fit, c.self.invariant.coded.lattice.dictionaries)) in
    let has : HasFactCodes dictionaries c.args.fact.now codes = record {
      are = rw (c.deref.ensures.value, values) at c.codes_of_values-codes.ensures.codes;
      eight = c.codes_of_values-codes.ensures.eight;
    } in
    let of = IsCodedFact-IsCoded schema sets facts dictionaries dictionaries cells c.args.fact.now codes
    c.self.invariant.coded fit refl c.self.invariant.coded.texts has in
    let is = cell_holds-HoldsFact schema sets facts dictionaries cells c.args.fact.now codes c.self.invariant.coded fit
    (omega arith) of in
    let result = rw (c.as_slice.ensures, c.deref-2.ensures.value) at c.hold_in_sets.ensures in
    let each = list_all-level_holds c.self.invariant fit has in
    rw (← c.self.view_is, result, each) is

pub returns-clause-cube : goal.returns-clause-cube
returns-clause-cube c = λ facts fit cube some.
    (returns-clause-held c).1 (HoldsFact-IsCubeOf c.args.fact.now c.args.self.now facts fit some cube)
