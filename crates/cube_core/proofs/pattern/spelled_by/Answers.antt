use Rattle.std.proofs.Common.{◌≡◌, ◌∙◌, ◌∷◌, ◌+◌, ◌++◌, [], rules, Some, None, Ok, Err}
use Rattle.std.specs.Option.{ok_or}
use Rattle.csv.specs.Records.{fields_of, field_at}
use Rattle.cube_core.specs.Query.{wanted_by, spelled_by}
use Rattle.cube_core.specs.declared.query.QueryFault.TheVariants as fault
use Rattle.cube_core.proofs.QueryLaws.{Says-through, wanted_by-more, wanted_by-stop, wanted_by-all}
use Rattle.cube_core.proofs.pattern.spelled_by.Goals as goal

pub returns-in_err-wanted_by : goal.returns-in_err-wanted_by
returns-in_err-wanted_by c =
    let fields = fields_of c.args.fields.now in
    let at : Some c.in-Some.field.now ≡ field_at fields c.loop-field.field-iterator.at =
    rw c.loop-field.invariant.row at c.in-Some.ensures.steps.1 in
    let why = c.in_err-wanted_by.field-0.0 in
    let gave : c.from_residual-in_err-wanted_by.result ≡ Err why = search rules in
    rw gave (Says-through (ok_or (wanted_by c.in-Some.field.now) fault.Field) (spelled_by fields) why
    (c.in_err-wanted_by.ensures {u = tt})
    (λ is.
    wanted_by-stop fields c.loop-field.field-iterator.at c.in-Some.field.now why at is c.loop-field.invariant.spelled))

pub loop-field-preserved : goal.loop-field-preserved
loop-field-preserved c =
    let fields = fields_of c.args.fields.now in
    let at : Some c.in-Some.field.now ≡ field_at fields c.loop-field.field-iterator.at =
    rw c.loop-field.invariant.row at c.in-Some.ensures.steps.1 in
    let said : Ok c.in_ok-wanted_by.field-0 ≡ ok_or (wanted_by c.in-Some.field.now) fault.Field = search rules in
    let pushed : c.push.new.self.items ≡ c.loop-field.wanted.items ++ c.in_ok-wanted_by.field-0 ∷ [] = search rules in
    let next : c.next.new.self.at ≡ c.loop-field.field-iterator.at + 1 = search rules in
    let more = wanted_by-more fields c.loop-field.field-iterator.at c.in-Some.field.now c.in_ok-wanted_by.field-0
    c.loop-field.wanted.items at said in
    record {
      row = search rules;
      found = rw (pushed, next) (more.0 ∙ c.loop-field.invariant.found);
      spelled = rw next (more.1 ∙ c.loop-field.invariant.spelled);
    }

pub returns : goal.returns
returns c =
    let fields = fields_of c.args.fields.now in
    let at : None ≡ field_at fields c.loop-field.field-iterator.at =
    rw c.loop-field.invariant.row at c.in-None.ensures.steps.1 in
    wanted_by-all fields c.loop-field.field-iterator.at c.loop-field.wanted.items at c.loop-field.invariant.found
    c.loop-field.invariant.spelled
