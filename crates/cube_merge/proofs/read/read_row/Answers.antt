use Rattle.std.proofs.Common.{◌≡◌, ◌≤◌, ◌∙◌, sym, true, rules, arith, length}
use Rattle.cube_core.specs.Text.{row_line}
use Rattle.cube_lines.specs.Parts.{EndsLine}
use Rattle.cube_merge.specs.Lawful.{IsRightRow}
use Rattle.cube_merge.proofs.read.read_row.Goals as goal

pub returns-clause-line : goal.returns-clause-line
returns-clause-line c =
    let row = c.in-Some.row in
    let on : c.in_ok-end_by_comma.field-0 ≡ true = search rules in
    let ended = (c.in_ok-end_by_comma.ensures {u = tt}) on in
    let of_schema : IsRightRow c.args.schema.now row = search rules in
    let some : 1 ≤ length row.key.coords =
    omega (arith, of_schema.lawful.coords, c.number_of_dimensions.ensures.schema.some_dimension) in
    let told : 1 ≤ length row.key.coords → EndsLine c.end_by_comma.new.line.items (row_line c.args.schema.now row) = search rules in
    told some ended.0 ended.2 ∙ sym ended.1
