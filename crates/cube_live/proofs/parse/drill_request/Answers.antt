use Rattle.std.proofs.Common.{◌≡◌, ◌+◌, ◌∙◌, sym, ap, length, ℕ, Ok, Err}
use Rattle.csv.specs.Records.{fields_of}
use Rattle.cube_core.specs.Layout.{number_of_dimensions}
use Rattle.cube_live.proofs.RequestLaws.{drill-found, found-sound}
use Rattle.cube_live.proofs.parse.drill_request.Goals as goal

pub returns-in-Ok : goal.returns-in-Ok
returns-in-Ok c =
    let s = c.args.schema.now in
    let fields = fields_of c.args.fields.now in
    let width : length fields ≡ 2 + number_of_dimensions s = sym c.len.ensures ∙ c.if-len-number_of_dimensions.false
    ∙ ap (λ (count : ℕ). 2 + count) c.number_of_dimensions.ensures.value in
    c.drill_by.ensures
    ∙ drill-found s fields (Ok (c.in-Ok.key, c.in-Ok.dimension)) width (sym c.in-Ok.is ∙ c.in_ok-key.ensures)

pub returns-in-Err : goal.returns-in-Err
returns-in-Err c =
    let s = c.args.schema.now in
    let fields = fields_of c.args.fields.now in
    let width : length fields ≡ 2 + number_of_dimensions s = sym c.len.ensures ∙ c.if-len-number_of_dimensions.false
    ∙ ap (λ (count : ℕ). 2 + count) c.number_of_dimensions.ensures.value in
    drill-found s fields (Err c.in-Err.fault) width (sym c.in-Err.is ∙ c.in_ok-key.ensures)

pub drill_by-requires-clause-width : goal.drill_by-requires-clause-width
drill_by-requires-clause-width c =
    let s = c.args.schema.now in
    let fields = fields_of c.args.fields.now in
    let width : length fields ≡ 2 + number_of_dimensions s = sym c.len.ensures ∙ c.if-len-number_of_dimensions.false
    ∙ ap (λ (count : ℕ). 2 + count) c.number_of_dimensions.ensures.value in
    (found-sound s fields (c.in-Ok.key, c.in-Ok.dimension) width (sym c.in-Ok.is ∙ c.in_ok-key.ensures)).1

pub drill_by-requires-clause-dimension : goal.drill_by-requires-clause-dimension
drill_by-requires-clause-dimension c =
    let s = c.args.schema.now in
    let fields = fields_of c.args.fields.now in
    let width : length fields ≡ 2 + number_of_dimensions s = sym c.len.ensures ∙ c.if-len-number_of_dimensions.false
    ∙ ap (λ (count : ℕ). 2 + count) c.number_of_dimensions.ensures.value in
    (found-sound s fields (c.in-Ok.key, c.in-Ok.dimension) width (sym c.in-Ok.is ∙ c.in_ok-key.ensures)).0
