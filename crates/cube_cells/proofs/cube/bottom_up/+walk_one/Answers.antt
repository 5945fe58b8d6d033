use Rattle.std.proofs.Common.{rules, ◌<◌, ◌+◌, ◌∷◌, [], arith}
use Rattle.std.proofs.lemmas.Result.{on_ok_weaker}
use Rattle.cube_cells.specs.BottomUp.{CanWalk}
use Rattle.cube_cells.specs.Tally.{Tally}
use Rattle.cube_cells.specs.declared.cube.codes.Codes.{Codes}
use Rattle.cube_cells.proofs.Filling.BottomUpLaws.{CanWalk-one, CanWalk-one_raised, TakesWalk-one}
use Rattle.cube_cells.proofs.Filling.PruneLaws.{TakesWalk-none}
use Rattle.cube_cells.proofs.cube.bottom_up.+walk_one.Goals as goal

pub returns-then-not-is_any_kept : goal.returns-then-not-is_any_kept
returns-then-not-is_any_kept g t c =
    let item : Codes × Tally = (c.args.codes.now, c.args.cell.now) in
    TakesWalk-none g.S.TakesCells.takes c.args.kept.now c.args.dimensions c.args.from (item ∷ []) item c.args.sink.now
    c.requires.item (c.is_any_kept.ensures c.if-not-is_any_kept.true)

pub walk_one-requires : goal.walk_one-requires
walk_one-requires g t c κs within =
    let below : c.args.from < c.args.dimensions = omega (arith, c.requires.from, c.if-dimensions-from-le-FREE.false) in
    let can : CanWalk c.args.dimensions (c.args.from + 1) ((c.args.codes.now, c.args.cell.now) ∷ []) =
    CanWalk-one c.args.dimensions c.args.from (c.args.codes.now, c.args.cell.now) c.requires.item below in
    search rules

pub walk_one-requires-2 : goal.walk_one-requires-2
walk_one-requires-2 g t c κs within =
    let below : c.args.from < c.args.dimensions = omega (arith, c.requires.from, c.if-dimensions-from-le-FREE.false) in
    let can : CanWalk c.args.dimensions (c.args.from + 1) ((c.with_all.result, c.args.cell.now) ∷ []) =
    rw c.with_all.ensures
    (CanWalk-one_raised c.args.dimensions c.args.from (c.args.codes.now, c.args.cell.now) c.requires.item below) in
    search rules

pub returns : goal.returns
returns g t c =
    let item : Codes × Tally = (c.args.codes.now, c.args.cell.now) in
    let below : c.args.from < c.args.dimensions = omega (arith, c.requires.from, c.if-dimensions-from-le-FREE.false) in
    on_ok_weaker c.walk_one-2.result (λ walked. TakesWalk-one g.S.TakesCells.takes c.args.kept.now c.args.dimensions
    c.args.from item c.args.sink.now c.walk_one.new.sink c.walk_one-2.new.sink c.requires.item below
    c.in_ok-walk_one.ensures walked) (rw c.with_all.ensures at c.walk_one-2.ensures)
