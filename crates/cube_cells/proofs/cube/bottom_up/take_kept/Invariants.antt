use Rattle.std.proofs.Common.{take, filter}
use Rattle.cube_cells.specs.BottomUp.{TakesAll, cells_of_items, is_kept_by}
use Rattle.cube_cells.proofs.cube.bottom_up.take_kept.Given as goal

abbrev pub invariant-loop-item : goal.invariant-loop-item
invariant-loop-item g l = TakesAll g.S.TakesCells.takes l.initial.sink
    (filter (λ item. is_kept_by l.kept item.0) (cells_of_items (take l.item-index l.items))) l.sink
