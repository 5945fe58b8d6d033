use Rattle.std.proofs.Common.{◌≡◌, ◌++◌, ◌∙◌, ◌<◌, ◌≤◌, ap, arith, get_or, length, refl, sym}
use Rattle.std.specs.Global.{Vec}
use Rattle.std.specs.Prelude.{min}
use Rattle.std.proofs.Math.ListN.{get_or-map}
use Rattle.std.proofs.lemmas.List.{get_or_default, get_or_read, length-map}
use Rattle.std.proofs.lemmas.List.Elements.{All-get_or}
use Rattle.cube_core.specs.declared.aggregate.Answer.{Answer}
use Rattle.cube_core.specs.declared.aggregate.Answer.TheVariants as answer
use Rattle.cube_lines.proofs.AnswerTextsLaws.{answer_texts-whole}
use Rattle.cube_text.specs.Rows.{answers_at}
use Rattle.cube_lines.specs.Parts.{parts}
use Rattle.cube_text.proofs.FieldLaws.{AddsParts-answer}
use Rattle.cube_text.proofs.print.put_answers_at.Goals as goal

pub push_answer-requires : goal.push_answer-requires
push_answer-requires c =
    let inside : c.loop-which.which < length c.args.digits.now =
    omega (arith, c.loop-which-test.true, c.min-which-end.ensures) in
    All-get_or (λ k. k ≤ 18) c.args.digits.now c.loop-which.which 0 inside c.requires.few

pub loop-which-preserved : goal.loop-which-preserved
loop-which-preserved c =
    let columns = c.args.columns.now in
    let at = c.args.at in
    let i = c.loop-which.which in
    let digits = c.args.digits.now in
    let answers = answers_at columns at in
    let here = λ (l : Vec Answer). get_or l.items at answer.Null in
    let column = c.index-columns-which.result in
    let many : length answers ≡ length columns = length-map columns here in
    let inside : i < length digits = omega (arith, c.loop-which-test.true, c.min-which-end.ensures) in
    let there : i < length columns = omega (arith, c.loop-which-test.true, c.min-which-end.ensures) in
    let inside_too : i < length answers = omega (arith, there, many) in
    let within : at < length column.items = rw c.index-columns-which.is
    (All-get_or (λ (l : Vec Answer). at < length l.items) columns i column there c.requires.long) in
    let is : c.index.result.now ≡ get_or answers i answer.Null =
    get_or_read column.items at c.index.result.now within c.index.ensures answer.Null
    ∙ ap here c.index-columns-which.is ∙ sym (get_or-map here columns i column)
    ∙ get_or_default answers i (here column) answer.Null inside_too in
    AddsParts-answer digits answers i (get_or digits i 0) c.index.result.now c.args.text.now.items
    c.loop-which.text.items c.push_answer.new.text.items inside inside_too refl is c.loop-which.invariant
    c.in_ok-push_answer.ensures

pub returns : goal.returns
returns c =
    let columns = c.args.columns.now in
    let digits = c.args.digits.now in
    let answers = answers_at columns c.args.at in
    let many : length answers ≡ length columns =
    length-map columns (λ (l : Vec Answer). get_or l.items c.args.at answer.Null) in
    let end : c.loop-which.which ≡ min (length digits) (length answers) =
    omega (arith, c.loop-which-test.false, c.loop-which.auto.which-end, c.min-which-end.ensures, many) in
    c.loop-which.invariant ∙ ap (λ t. c.args.text.now.items ++ parts t)
    (answer_texts-whole c.loop-which.which digits answers end)
