use Rattle.std.proofs.lemmas.Result.{IfOk-weaker}
use Rattle.cube_cells.specs.BaseCuboid.{cells_of_cuboid}
use Rattle.cube_ledger.specs.Ledger.{all_facts}
use Rattle.cube_tool.proofs.CellFactLaws.{HasCellsOf-cells}
use Rattle.cube_tool.proofs.command.max_cells.count_taken.Goals as goal

pub returns : goal.returns
returns c =
    let ledger = c.args.taken.now.ledger in
    IfOk-weaker c.count_cells.result _ _
    (λ number many. HasCellsOf-cells ledger.schema (all_facts ledger.accounts) (cells_of_cuboid c.cells.result.now)
    c.cells.ensures.has.schema c.cells.ensures.has.has number many) c.count_cells.ensures
