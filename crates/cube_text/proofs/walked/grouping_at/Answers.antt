use Rattle.std.proofs.Common.{rules, arith, ◌≡◌, ◌<◌, ◌≤◌, ◌∙◌, [], ap, get_or, length, sym}
use Rattle.cube_core.specs.Text.{grouping_text}
use Rattle.cube_cells.proofs.Codes.KeyLaws.{get_or-coords_at}
use Rattle.cube_text.proofs.ShownLaws.{coords_at-past, grouping_text-all, grouping_text-other}
use Rattle.cube_text.proofs.walked.grouping_at.Goals as goal

pub returns-then-dimension-ge8 : goal.returns-then-dimension-ge8
returns-then-dimension-ge8 c = λ dictionaries inside.
    let codes = c.args.codes.now.codes in
    let eight : length codes ≡ 8 = search rules in
    let past : length codes ≤ c.args.dimension = omega (arith, eight, c.if-dimension-ge8.true) in
    sym (ap grouping_text (coords_at-past dictionaries codes c.args.dimension past))

pub returns-then-codes-dimension : goal.returns-then-codes-dimension
returns-then-codes-dimension c = λ dictionaries inside.
    let codes = c.args.codes.now.codes in
    let within : c.args.dimension < length codes = omega arith in
    sym (ap grouping_text (get_or-coords_at dictionaries codes c.args.dimension inside within)
    ∙ grouping_text-all (get_or dictionaries c.args.dimension []) (get_or codes c.args.dimension 0)
    c.if-codes-dimension.true)

pub returns : goal.returns
returns c = λ dictionaries inside.
    let codes = c.args.codes.now.codes in
    let within : c.args.dimension < length codes = omega arith in
    sym (ap grouping_text (get_or-coords_at dictionaries codes c.args.dimension inside within)
    ∙ grouping_text-other (get_or dictionaries c.args.dimension []) (get_or codes c.args.dimension 0)
    c.if-codes-dimension.false)
