use Rattle.std.proofs.Common.{◌≡◌, ◌++◌, take}
use Rattle.std.specs.List.{flat_map}
use Rattle.cube_text.specs.Rows.{line_with}
use Rattle.cube_text.proofs.print.put_rows.Given as goal

abbrev pub invariant-loop-row : goal.invariant-loop-row
invariant-loop-row l =
    l.text.items ≡ l.initial.text.items ++ flat_map (line_with l.digits) (take l.row-index l.rows)
