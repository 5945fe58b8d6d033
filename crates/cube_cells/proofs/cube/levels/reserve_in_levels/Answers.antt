use Rattle.std.proofs.Common.{refl}
use Rattle.cube_cells.proofs.Filling.MovedLaws.{AllZip-IsReordered_refl, AllZip-IsReordered_set}
use Rattle.cube_cells.proofs.cube.levels.reserve_in_levels.Goals as goal

pub loop-place-init : goal.loop-place-init
loop-place-init g c = AllZip-IsReordered_refl c.args.levels.now

pub returns-in_err-reserve : goal.returns-in_err-reserve
returns-in_err-reserve g c =
    AllZip-IsReordered_set c.args.levels.now c.loop-place.levels c.loop-place.place c.index-levels-place.result _
    c.loop-place.invariant c.loop-place-test.true (record { same_set = refl; moved = c.reserve.ensures.entries.0 })

pub loop-place-preserved : goal.loop-place-preserved
loop-place-preserved g c =
    AllZip-IsReordered_set c.args.levels.now c.loop-place.levels c.loop-place.place c.index-levels-place.result _
    c.loop-place.invariant c.loop-place-test.true (record { same_set = refl; moved = c.reserve.ensures.entries.0 })
