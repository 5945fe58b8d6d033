use Rattle.std.proofs.Common.{rules, ◌≡◌, ◌<◌, ◌≤◌, ◌+◌, arith, length, subst}
use Rattle.std.specs.Prelude.{slice_range}
use Rattle.std.proofs.lemmas.Result.{on_ok_weaker}
use Rattle.cube_cells.specs.BottomUp.{CanWalk, TakesWalk, cells_of_items, run_of}
use Rattle.cube_cells.specs.Coded.{CodedCells}
use Rattle.cube_cells.proofs.Filling.BottomUpLaws.{CanWalk-raised, CanWalk-run, IsWalking-run, IsWalking-start}
use Rattle.cube_cells.proofs.Filling.BottomUpLaws.{TakesRuns-IsWalking, TakesWalk-kept, TakesWalk-raised}
use Rattle.cube_cells.proofs.Filling.BottomUpLaws.{cells_of_items-range, length-cells_of_items}
use Rattle.cube_cells.proofs.Filling.PruneLaws.{TakesWalk-none_first, TakesWalk-runs_first}
use Rattle.cube_cells.proofs.cube.bottom_up.+walk.Goals as goal

pub walk-returns-then-from-dimensions : goal.walk-returns-then-from-dimensions
walk-returns-then-from-dimensions g t c =
    let all : c.args.from ≡ c.args.dimensions = search rules in
    on_ok_weaker c.take_kept.result (λ taken. TakesWalk-kept g.S.TakesCells.takes c.args.kept.now c.args.dimensions
    c.args.from (cells_of_items c.args.items.now) c.args.sink.now c.take_kept.new.sink all c.requires.items taken)
    c.take_kept.ensures

pub walk-returns-then-not-is_any_kept : goal.walk-returns-then-not-is_any_kept
walk-returns-then-not-is_any_kept g t c =
    TakesWalk-none_first g.S.TakesCells.takes c.args.kept.now c.args.dimensions c.args.from c.args.items.now
    c.index-items-0.result c.args.sink.now c.requires.items c.index-items-0.is
    (c.is_any_kept.ensures c.if-not-is_any_kept.true)

pub walk-walk_runs-requires : goal.walk-walk_runs-requires
walk-walk_runs-requires g t c κs within =
    let below : c.args.from < c.args.dimensions = omega (arith, c.requires.from, c.if-from-dimensions.false) in
    search rules

pub walk-returns-then-not-is_any_kept-2 : goal.walk-returns-then-not-is_any_kept-2
walk-returns-then-not-is_any_kept-2 g t c =
    let below : c.args.from < c.args.dimensions = omega (arith, c.requires.from, c.if-from-dimensions.false) in
    let some : 0 < length c.args.items.now = search (rules, arith) in
    TakesWalk-runs_first g.S.TakesCells.takes c.args.kept.now c.args.dimensions c.args.from c.args.items.now
    c.index-items-0.result c.args.sink.now c.walk_runs.new.sink c.requires.items below c.in_ok-walk_runs.ensures
    c.index-items-0.is some (rw c.with_all.ensures at (c.is_any_kept-2.ensures c.if-not-is_any_kept-2.true))

pub walk-walk-requires : goal.walk-walk-requires
walk-walk-requires g t c κs within =
    let items = cells_of_items c.args.items.now in
    let raised = cells_of_items c.in_ok-raised.raised.items in
    let below : c.args.from < c.args.dimensions = omega (arith, c.requires.from, c.if-from-dimensions.false) in
    let can : CanWalk c.args.dimensions (c.args.from + 1) raised =
    CanWalk-raised c.args.dimensions c.args.from items raised c.requires.items below c.in_ok-raised.ensures in
    let here : CanWalk c.args.dimensions (c.args.from + 1) (cells_of_items c.deref.result.now) =
    rw c.deref.ensures.value can in
    search rules

pub walk-returns : goal.walk-returns
walk-returns g t c =
    let items = cells_of_items c.args.items.now in
    let raised = cells_of_items c.in_ok-raised.raised.items in
    let below : c.args.from < c.args.dimensions = omega (arith, c.requires.from, c.if-from-dimensions.false) in
    on_ok_weaker c.walk.result (λ walked. TakesWalk-raised g.S.TakesCells.takes c.args.kept.now c.args.dimensions
    c.args.from items raised c.args.sink.now c.walk_runs.new.sink c.walk.new.sink c.requires.items below
    c.in_ok-walk_runs.ensures c.in_ok-raised.ensures walked) (rw c.deref.ensures.value at c.walk.ensures)

pub walk_runs-loop-start-init : goal.walk_runs-loop-start-init
walk_runs-loop-start-init g t c =
    IsWalking-start g.S.TakesCells.takes c.args.kept.now c.args.dimensions c.args.from (cells_of_items c.args.items.now)
    c.args.sink.now c.requires.items c.requires.from

pub walk_runs-walk-requires : goal.walk_runs-walk-requires
walk_runs-walk-requires g t c κs within =
    let items = cells_of_items c.args.items.now in
    let start = c.loop-start.start in
    let end = c.end_of_run-end.result in
    let can : CanWalk c.args.dimensions (c.args.from + 1) (run_of items start end) =
    CanWalk-run g.S.TakesCells.takes c.args.kept.now c.args.dimensions c.args.from items start end c.args.sink.now
    c.loop-start.sink c.loop-start.invariant c.end_of_run-end.ensures in
    let here : CanWalk c.args.dimensions (c.args.from + 1) (cells_of_items (slice_range c.args.items.now start end)) =
    rw cells_of_items-range can in
    let below : c.args.from < c.args.dimensions = c.requires.from in
    search rules

pub walk_runs-loop-start-preserved : goal.walk_runs-loop-start-preserved
walk_runs-loop-start-preserved g t c =
    let items = cells_of_items c.args.items.now in
    let start = c.loop-start.start in
    let end = c.end_of_run-end.result in
    let walked : TakesWalk g.S.TakesCells.takes c.args.kept.now c.args.dimensions (c.args.from + 1)
    (run_of items start end) c.loop-start.sink c.walk.new.sink =
    subst (λ (l : CodedCells). TakesWalk g.S.TakesCells.takes c.args.kept.now c.args.dimensions (c.args.from + 1) l
    c.loop-start.sink c.walk.new.sink) (cells_of_items-range c.args.items.now start end) c.in_ok-walk.ensures in
    IsWalking-run g.S.TakesCells.takes c.args.kept.now c.args.dimensions c.args.from items start end c.args.sink.now
    c.loop-start.sink c.walk.new.sink c.loop-start.invariant c.end_of_run-end.ensures walked

pub walk_runs-returns : goal.walk_runs-returns
walk_runs-returns g t c =
    let items = cells_of_items c.args.items.now in
    let past : length items ≤ c.loop-start.start =
    omega (arith, length-cells_of_items c.args.items.now, c.loop-start-test.false) in
    TakesRuns-IsWalking g.S.TakesCells.takes c.args.kept.now c.args.dimensions c.args.from items c.loop-start.start
    c.args.sink.now c.loop-start.sink c.loop-start.invariant past
