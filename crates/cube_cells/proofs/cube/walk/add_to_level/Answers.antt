use Rattle.std.proofs.Common.{refl}
use Rattle.std.proofs.lemmas.Result.{on_err_weaker, on_ok_weaker}
use Rattle.cube_cells.proofs.cube.walk.add_to_level.Goals as goal

pub add_to_cell-requires : goal.add_to_cell-requires
add_to_cell-requires c = rw c.kept-key.ensures c.requires

pub returns-clause-added : goal.returns-clause-added
returns-clause-added c = on_ok_weaker c.add_to_cell.result
    (λ adds. record { same_set = refl; adds = adds; apart = c.add_to_cell.ensures.apart })
    (rw c.kept-key.ensures at c.add_to_cell.ensures.added)

pub returns-clause-err : goal.returns-clause-err
returns-clause-err c = on_err_weaker c.add_to_cell.result
    (λ same. record { same_set = refl; same = same; apart = c.add_to_cell.ensures.apart })
    (rw c.kept-key.ensures at c.add_to_cell.ensures.err)
