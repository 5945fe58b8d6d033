use Rattle.std.proofs.Common.{◌≡◌, ◌+◌, ◌/◌, length, subst, sym}
use Rattle.std.proofs.lemmas.Result.{IfOk-weaker}
use Rattle.cube_cells.specs.BottomUp.{AreRaised, cells_of_items}
use Rattle.cube_cells.specs.Ranges.{AreRaisedIn}
use Rattle.cube_cells.specs.WalkParts.{cells_of_lists, put_together}
use Rattle.cube_cells.proofs.Filling.RangeLaws.{AreRaised-lists, made_each}
use Rattle.cube_cells.proofs.cube.ranges.raised_by.Goals as goal

pub returns : goal.returns
returns g c =
    let items = cells_of_items c.args.items.now in
    let marks = c.in_ok-marks.marks.items in
    let lists = c.in_ok-lists.lists.items in
    let each = made_each (AreRaisedIn marks c.args.from c.args.items.now) lists c.in_ok-made.made.items
    (length marks / 32 + 1) c.in_ok-lists.ensures (rw c.deref.ensures.value at c.in_ok-made.ensures) in
    IfOk-weaker c.put_together.result (λ raised. cells_of_items raised.items ≡ put_together (cells_of_lists lists))
    (λ raised. AreRaised c.args.from items (cells_of_items raised.items))
    (λ raised are. subst (AreRaised c.args.from items) (sym are)
    (AreRaised-lists marks c.args.from c.args.items.now lists c.in_ok-marks.ensures each.0 each.1))
    c.put_together.ensures
