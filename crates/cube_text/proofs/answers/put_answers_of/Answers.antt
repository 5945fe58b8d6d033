use Rattle.std.proofs.Common.{rules, ◌≡◌, ◌<◌, ◌∙◌, ap, get_or, length}
use Rattle.cube_core.specs.Layout.{Layout}
use Rattle.cube_core.specs.Text.{digits_of}
use Rattle.cube_core.specs.declared.aggregate.Agg.TheVariants.{CountAll}
use Rattle.cube_text.specs.Rows.{IsAnswerOf}
use Rattle.cube_text.proofs.AnswerLaws.{HasAnswersBelow-more, HasAnswersBelow-none}
use Rattle.cube_text.proofs.answers.put_answers_of.Goals as goal

pub loop-aggregate-init : goal.loop-aggregate-init
loop-aggregate-init g c =
    HasAnswersBelow-none c.args.cells.now.schema c.args.cell.now c.args.text.now.items

pub loop-aggregate-preserved : goal.loop-aggregate-preserved
loop-aggregate-preserved g c =
    let s : Layout = c.args.cells.now.schema in
    let i = c.loop-aggregate.aggregate-index in
    let items = c.aggregates-aggregate-items.result.now in
    let same : items ≡ s.aggregates = c.aggregates-aggregate-items.ensures.value
    ∙ ap (λ (l : Layout). l.aggregates) c.schema-schema.ensures.schema in
    let inside : i < length s.aggregates = rw same at c.loop-aggregate-test.true in
    let k_is : c.digits_of-digits.result ≡ digits_of c.schema-schema.result.now (get_or items i CountAll) =
    search rules in
    let a_is : IsAnswerOf (get_or items i CountAll) c.args.cell.now c.in_ok-try_answer.field-0 = search rules in
    HasAnswersBelow-more s c.args.cell.now i c.digits_of-digits.result c.in_ok-try_answer.field-0 c.args.text.now.items
    c.loop-aggregate.text.items c.push_answer.new.text.items c.loop-aggregate.invariant inside
    (rw (c.schema-schema.ensures.schema, same) at k_is) (rw same at a_is) c.in_ok-push_answer.ensures

pub returns-clause-some : goal.returns-clause-some
returns-clause-some g c =
    (rw c.schema-schema.ensures.schema at c.aggregates-aggregate-items.ensures.schema).some_aggregate
