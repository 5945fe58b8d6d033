use Rattle.std.proofs.Common.{◌<◌, arith, length, subst}
use Rattle.std.proofs.lemmas.List.{get_or_default}
use Rattle.cube_cells.specs.Levels.{AddsInLevel, SameInLevel}
use Rattle.cube_cells.specs.declared.cube.levels.Level.{Level}
use Rattle.cube_cells.proofs.Cells.TableLaws.{AllZip-ChangesFirst, AllZip-refused}
use Rattle.cube_cells.proofs.cube.walk.add_to_sets.Goals as goal

pub returns-in-Err-clause-err : goal.returns-in-Err-clause-err
returns-in-Err-clause-err c =
    let now = c.loop-place.levels in
    let place = c.loop-place.place in
    let next = c.add_to_level.new.level in
    let codes = c.args.codes.now in
    let inside : place < length c.args.levels.now =
    omega (arith, c.loop-place-test.true, c.loop-place.invariant.same_length) in
    let within : place < length now = omega (arith, inside, c.loop-place.invariant.same_length) in
    AllZip-refused codes c.args.values.now place c.args.levels.now now c.take_from_sets.new.levels next inside
    c.requires c.loop-place.invariant
    (λ d. subst (λ (level : Level _). SameInLevel codes level next)
    (get_or_default now place c.index-levels-place.result d within) c.in-Err.ensures.err)
    c.take_from_sets.ensures

pub returns-clause-added : goal.returns-clause-added
returns-clause-added c = AllZip-ChangesFirst (AddsInLevel c.args.codes.now c.args.values.now) c.args.levels.now
    c.loop-place.levels c.loop-place.place (omega (
      arith,
      c.loop-place-test.false,
      c.loop-place.invariant.same_length,
    )) c.loop-place.invariant
