use Rattle.std.proofs.lemmas.List.Elements.{All-filter}
use Rattle.std.proofs.lemmas.Result.{IfOk-weaker}
use Rattle.cube_cells.specs.BottomUp.{AreUnited, IsItem, all_at, cells_of_items, raise}
use Rattle.cube_cells.specs.Ranges.{AreRaisedIn, is_in_range, items_in}
use Rattle.cube_cells.specs.Tally.{Tally}
use Rattle.cube_cells.specs.declared.cube.codes.Codes.{Codes}
use Rattle.cube_cells.proofs.Filling.BottomUpLaws.{AreRaised-AreUnited, All-raise}
use Rattle.cube_cells.proofs.cube.ranges.raised_in.Goals as goal

pub united-requires : goal.united-requires
united-requires g c =
    let items = cells_of_items c.args.items.now in
    let test : Codes × Tally → _ = λ item. is_in_range c.args.marks.now c.args.range (all_at c.args.from item.0) in (
      c.requires.items.0,
      rw c.in_ok-lent.ensures (All-raise c.requires.items.0 c.args.from
          (items_in c.args.marks.now c.args.from c.args.range items)
          (All-filter test (IsItem c.requires.items.0) items c.requires.items.1)),
    )

pub returns : goal.returns
returns g c =
    let items = items_in c.args.marks.now c.args.from c.args.range (cells_of_items c.args.items.now) in
    IfOk-weaker c.united.result (λ raised. AreUnited (raise c.args.from items) (cells_of_items raised.items))
    (AreRaisedIn c.args.marks.now c.args.from c.args.items.now c.args.range)
    (λ raised are. AreRaised-AreUnited c.args.from items (cells_of_items raised.items) are)
    (rw c.in_ok-lent.ensures at c.united.ensures)
