use Rattle.std.proofs.Common.{◌≤◌, length, map, arith}
use Rattle.std.proofs.lemmas.Result.{on_ok_weaker}
use Rattle.std.proofs.lemmas.List.{length-map, length-take-le}
use Rattle.cube_core.specs.Layout.{cube_dimensions, number_of_dimensions}
use Rattle.cube_core.specs.Text.{grouping_name}
use Rattle.cube_lines.proofs.TextLaws.{EndsLine-line}
use Rattle.cube_lines.proofs.text.push_header.Goals as goal

pub returns : goal.returns
returns c =
    let s = c.args.schema.now in
    let names = cube_dimensions s in
    let dimensions = rw c.cube_dimensions.ensures.value at c.in_ok-push_texts.ensures in
    let groupings = rw c.cube_dimensions-2.ensures.value at c.in_ok-push_grouping_names.ensures in
    let aggregates = rw c.aggregate_texts.ensures.value at c.in_ok-push_texts-2.ensures in
    let some : 1 ≤ length names = omega (
      arith,
      length-take-le (number_of_dimensions s) s.dimensions (omega arith),
      c.cube_dimensions.ensures.schema.some_dimension,
    ) in
    on_ok_weaker c.end_line.result (EndsLine-line names (map grouping_name names)
    s.aggregate_texts _ _ _ _ c.end_line.new.text.items some (rw (length-map names grouping_name) some)
    dimensions groupings aggregates) c.end_line.ensures
