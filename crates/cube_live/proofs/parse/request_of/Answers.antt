use Rattle.std.proofs.Common.{◌∙◌, ap, ℕ, Option}
use Rattle.std.proofs.lemmas.Result.{IfOk-weaker}
use Rattle.std.specs.Option.{option_map_or}
use Rattle.csv.specs.Records.{fields_of}
use Rattle.cube_live.specs.Request.{question_of}
use Rattle.cube_live.specs.declared.request.Request.TheVariants.{Change}
use Rattle.cube_live.proofs.parse.request_of.Goals as goal

pub returns-in-Some : goal.returns-in-Some
returns-in-Some c =
    let asked = question_of c.args.schema.now (fields_of c.args.fields.now) in
    ap (λ (source : Option ℕ). option_map_or Change source asked) (rw c.field_at.ensures at c.in-Some.ensures)

pub returns-in-None : goal.returns-in-None
returns-in-None c =
    let asked = question_of c.args.schema.now (fields_of c.args.fields.now) in
    IfOk-weaker c.question_of.result _ _ (λ request is. is ∙
    ap (λ (source : Option ℕ). option_map_or Change source asked) (rw c.field_at.ensures at c.in-None.ensures))
    c.question_of.ensures
