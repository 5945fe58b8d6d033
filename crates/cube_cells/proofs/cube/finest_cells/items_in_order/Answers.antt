use Rattle.std.proofs.Common.{subst}
use Rattle.std.specs.List.Sorted.{IsPermutation}
use Rattle.std.proofs.lemmas.List.Sorted.{IsPermutation-map}
use Rattle.cube_cells.specs.BottomUp.{cells_of_items}
use Rattle.cube_cells.specs.Coded.{CodedCells}
use Rattle.cube_cells.specs.Tally.{Tally}
use Rattle.cube_cells.specs.declared.cube.bottom_up.Item.{Item}
use Rattle.cube_cells.specs.declared.cube.codes.Codes.{Codes}
use Rattle.cube_cells.proofs.cube.finest_cells.items_in_order.Goals as goal

pub returns-clause-same : goal.returns-clause-same
returns-clause-same g c = subst (λ (cells : CodedCells). IsPermutation cells
    (cells_of_items c.put_in_order.new.items.items)) c.in_ok-items.ensures
    (IsPermutation-map {X = Codes × Tally} (λ (item : Item _). (item.codes, item.cell)) c.in_ok-items.items.items
    c.put_in_order.new.items.items c.put_in_order.ensures.same)
