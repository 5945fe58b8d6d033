use Rattle.std.proofs.lemmas.Result.{IfOk-weaker}
use Rattle.cube_cells.specs.BottomUp.{AreRaised, AreUnited, cells_of_items, raise}
use Rattle.cube_cells.proofs.Filling.BottomUpLaws.{AreRaised-AreUnited, All-raise}
use Rattle.cube_cells.proofs.cube.bottom_up.raised.Goals as goal

pub united-requires : goal.united-requires
united-requires g c = (
  c.requires.items.0,
  rw c.in_ok-lent.ensures
      (All-raise c.requires.items.0 c.args.from (cells_of_items c.args.items.now) c.requires.items.1),
)

pub returns : goal.returns
returns g c =
    let items = cells_of_items c.args.items.now in
    IfOk-weaker c.united.result (λ raised. AreUnited (raise c.args.from items) (cells_of_items raised.items))
    (λ raised. AreRaised c.args.from items (cells_of_items raised.items))
    (λ raised are. AreRaised-AreUnited c.args.from items (cells_of_items raised.items) are)
    (rw c.in_ok-lent.ensures at c.united.ensures)
