use Rattle.std.proofs.Common.{◌≡◌, ◌+◌, ◌∙◌, sym, ap, length, ℕ}
use Rattle.csv.specs.Records.{fields_of}
use Rattle.cube_core.specs.Layout.{number_of_dimensions}
use Rattle.cube_live.proofs.RequestLaws.{slice-Ok, slice-Err}
use Rattle.cube_live.proofs.parse.slice_request.Goals as goal

pub returns-in-Ok : goal.returns-in-Ok
returns-in-Ok c =
    let s = c.args.schema.now in
    let fields = fields_of c.args.fields.now in
    let width : length fields ≡ 1 + number_of_dimensions s = sym c.len.ensures ∙ c.if-len-number_of_dimensions.false
    ∙ ap (λ (count : ℕ). 1 + count) c.number_of_dimensions.ensures.value in
    slice-Ok s fields c.in-Ok.pattern width (sym c.in_ok-pattern.ensures ∙ c.in-Ok.is)

pub returns-in-Err : goal.returns-in-Err
returns-in-Err c =
    let s = c.args.schema.now in
    let fields = fields_of c.args.fields.now in
    let width : length fields ≡ 1 + number_of_dimensions s = sym c.len.ensures ∙ c.if-len-number_of_dimensions.false
    ∙ ap (λ (count : ℕ). 1 + count) c.number_of_dimensions.ensures.value in
    slice-Err s fields c.in-Err.fault width (sym c.in_ok-pattern.ensures ∙ c.in-Err.is)
