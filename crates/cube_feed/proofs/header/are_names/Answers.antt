use Rattle.std.proofs.Common.{◌≡◌, length, sym, ◌∙◌}
use Rattle.cube_core.specs.Items.{width_of}
use Rattle.cube_feed.proofs.HeaderLaws.{are_names-width_of, are_names-parts}
use Rattle.cube_feed.proofs.header.are_names.Goals as goal

pub returns-then-len-width : goal.returns-then-len-width
returns-then-len-width c =
    rw c.of-spelled.ensures at (are_names-width_of c.args.schema.now c.of-spelled.result
    (λ e. c.if-len-width.true (c.len.ensures ∙ e ∙ sym c.width.ensures)))

pub returns : goal.returns
returns c =
    let width : length c.of-spelled.result ≡ width_of c.args.schema.now =
    sym c.len.ensures ∙ c.if-len-width.false ∙ c.width.ensures in
    let first = rw c.bytes_at.ensures at c.is_first_name-first.ensures in
    let second = rw c.bytes_at-2.ensures at c.is_name-second.ensures in
    let dims = rw c.dimensions-names.ensures.value at c.are_names_from-dimensions.ensures in
    let measures =
    rw (c.measures.ensures.value, c.dimensions-names.ensures.value) at c.are_names_from-measures.ensures in
    rw c.of-spelled.ensures at (are_names-parts c.args.schema.now c.of-spelled.result _ _ _ _ width first second dims
    measures)
