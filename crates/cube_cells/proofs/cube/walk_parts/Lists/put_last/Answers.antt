use Rattle.std.proofs.Common.{◌∷◌, [], arith, ◌+◌, get_or, length, subst, sym}
use Rattle.std.proofs.lemmas.Result.{on_ok_weaker}
use Rattle.cube_cells.specs.BottomUp.{CanWalk, IsNoneKept, all_at, cells_of_items, is_kept_by}
use Rattle.cube_cells.specs.Coded.{CodedCells}
use Rattle.cube_cells.specs.WalkParts.{cells_of_lists}
use Rattle.cube_cells.proofs.Filling.BottomUpLaws.{no_cell}
use Rattle.cube_cells.proofs.Filling.PartLaws.{CanWalk-at, CanWalkPart-whole, PutsLast-runs, length-cells_of_lists}
use Rattle.cube_cells.proofs.cube.walk_parts.Lists.put_last.Goals as goal

pub returns-then-is_none_above : goal.returns-then-is_none_above
returns-then-is_none_above g c =
    let lists = c.args.self.now in
    let from = length lists.raised.now in
    let here : CodedCells = get_or (cells_of_items lists.items.now ∷ cells_of_lists lists.raised.now) from [] in
    let can : CanWalk lists.dimensions from here =
    CanWalk-at lists.dimensions (cells_of_items lists.items.now) (cells_of_lists lists.raised.now) from c.requires
    (omega (arith, length-cells_of_lists lists.raised.now)) in
    let none = subst (λ (l : CodedCells).
    IsNoneKept (is_kept_by lists.kept.now) (from + 1) (all_at from (get_or l 0 no_cell).0)) c.items_at-items.ensures
    (c.is_none_above.ensures c.if-is_none_above.true no_cell) in
    on_ok_weaker c.put_runs.result (λ puts. PutsLast-runs lists.kept.now lists.dimensions from here
    c.args.parts.now.items c.put_runs.new.parts.items no_cell can c.if-from-self.true none puts) c.put_runs.ensures

pub part-requires : goal.part-requires
part-requires g c =
    let lists = c.args.self.now in
    let from = length lists.raised.now in
    CanWalkPart-whole lists.kept.now lists.dimensions from (cells_of_items c.items_at-items.result.now)
    (subst (CanWalk lists.dimensions from) (sym c.items_at-items.ensures)
    (CanWalk-at lists.dimensions (cells_of_items lists.items.now) (cells_of_lists lists.raised.now) from c.requires
    (omega (arith, length-cells_of_lists lists.raised.now))))
    (omega (arith, c.requires.few, length-cells_of_lists lists.raised.now))
