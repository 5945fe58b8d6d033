use Rattle.std.proofs.Common.{arith, sym, ◌≡◌, ◌||◌, true, nat_lt}
use Rattle.std.proofs.lemmas.Bool.{or_left, or_right, lt-ltb}
use Rattle.cube_cells.specs.Coded.{is_total_code}
use Rattle.cube_cells.proofs.Cells.WalkLaws.{TakesIn-set_value, TakesIn-remove_entry}
use Rattle.cube_cells.proofs.cube.walk.take_from_cell.Goals as goal
use Rattle.cube_cells.proofs.cube.walk.take_from_cell.Goals.{else-minus_at-eq0-via-then-minus_at-eq0+else-not-is_total}
use Rattle.cube_cells.proofs.cube.walk.take_from_cell.Goals.{else-minus_at-eq0-via-else-minus_at-eq0}

pub returns-then-not-is_total-clause-taken : goal.returns-then-not-is_total-clause-taken
returns-then-not-is_total-clause-taken c =
    TakesIn-remove_entry c.args.codes c.args.values.now c.args.cells.now.entries c.minus_at.new.cells.entries
    c.remove.new.self.entries c.minus_at.result c.minus_at.ensures.taken c.if-minus_at-eq0.true
    (sym c.if-not-is_total.ensures) c.remove.ensures.updates.0 c.remove.ensures.entries

pub returns-else-minus_at-eq0-clause-taken : goal.returns-else-minus_at-eq0-clause-taken
returns-else-minus_at-eq0-clause-taken c =
    let stays : (is_total_code c.args.codes || nat_lt 0 c.minus_at.result) ≡ true = elim c.else-minus_at-eq0.branch [
      | else-minus_at-eq0-via-then-minus_at-eq0+else-not-is_total w ↦
          or_left (is_total_code c.args.codes) (nat_lt 0 c.minus_at.result) (sym w.if-not-is_total.ensures)
      | else-minus_at-eq0-via-else-minus_at-eq0 w ↦
          or_right (is_total_code c.args.codes) (nat_lt 0 c.minus_at.result) (lt-ltb 0 c.minus_at.result (omega arith))
    ] in
    TakesIn-set_value c.args.codes c.args.values.now c.args.cells.now.entries c.minus_at.new.cells.entries
    c.minus_at.result c.minus_at.ensures.taken stays
