use Rattle.std.proofs.Common.{◌<◌, take, get_or, length, arith, refl}
use Rattle.std.proofs.lemmas.List.{take_more}
use Rattle.std.proofs.lemmas.List.Elements.{All-push}
use Rattle.cube_core.proofs.ListLaws.{AllZip-push}
use Rattle.cube_cells.specs.Levels.{IsNewLevel, IsUnderKey}
use Rattle.cube_cells.specs.declared.cube.levels.Level.{Level}
use Rattle.cube_cells.proofs.cube.levels.new_levels.Goals as goal

pub loop-set-preserved : goal.loop-set-preserved
loop-set-preserved g c =
    let i = c.loop-set.set-index in
    let sets = c.args.sets.now in
    let inside : i < length sets = omega (arith, c.loop-set-test.true) in
    let level : Level _ = record { set = get_or sets i 0; cells = c.in_ok-cells.cells } in
    let is : IsNewLevel c.args.measures (get_or sets i 0) level =
    record { set_is = refl; new = c.in_ok-cells.ensures.new } in
    rw (c.in_ok-push.ensures.items, take_more sets i 0 inside) (
      AllZip-push (IsNewLevel c.args.measures) (take i sets) c.loop-set.levels.items
          (get_or sets i 0) level c.loop-set.invariant.0 is,
      All-push (IsUnderKey c.args.key) c.loop-set.levels.items level c.loop-set.invariant.1 c.in_ok-cells.ensures.key,
    )
