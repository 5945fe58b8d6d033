use Rattle.std.proofs.Common.{◌∙◌, ◌++◌, ap}
use Rattle.std.specs.List.{flat_map}
use Rattle.cube_core.specs.Text.{digits_of_answers}
use Rattle.cube_text.specs.Rows.{line_with}
use Rattle.cube_text.proofs.PartLaws.{RowsGoOn-all}
use Rattle.cube_text.proofs.print.print_cells.Goals as goal

pub returns : goal.returns
returns c =
    let part = rw (c.as_slice.ensures.value, c.in_ok-digits.ensures.value) at c.in_ok-put_cells.ensures in
    record {
      rows = part.rows;
      are_rows = RowsGoOn-all c.args.cells.now _ part.rows c.len.ensures part.go_on;
      text_is = part.added ∙ ap (λ t. t ++ flat_map (line_with (digits_of_answers c.args.schema.now)) part.rows) c.in_ok-text.ensures;
    }
