use Rattle.std.proofs.Common.{◌≡◌, ◌++◌, ◌∙◌, ◌<◌, ◌≤◌, ap, arith, get_or, length, refl}
use Rattle.std.specs.Prelude.{min}
use Rattle.std.proofs.lemmas.List.{get_or_default}
use Rattle.std.proofs.lemmas.List.Elements.{All-get_or}
use Rattle.cube_core.specs.declared.aggregate.Answer.TheVariants as answer
use Rattle.cube_lines.proofs.AnswerTextsLaws.{answer_texts-whole}
use Rattle.cube_lines.specs.Parts.{parts}
use Rattle.cube_text.proofs.FieldLaws.{AddsParts-answer}
use Rattle.cube_text.proofs.print.put_answers.Goals as goal

pub push_answer-requires : goal.push_answer-requires
push_answer-requires c =
    let inside : c.loop-which.which < length c.args.digits.now =
    omega (arith, c.loop-which-test.true, c.min-which-end.ensures) in
    All-get_or (λ k. k ≤ 18) c.args.digits.now c.loop-which.which 0 inside c.requires

pub loop-which-preserved : goal.loop-which-preserved
loop-which-preserved c =
    let i = c.loop-which.which in
    let digits = c.args.digits.now in
    let answers = c.args.answers.now in
    let inside : i < length digits = omega (arith, c.loop-which-test.true, c.min-which-end.ensures) in
    let inside_too : i < length answers = omega (arith, c.loop-which-test.true, c.min-which-end.ensures) in
    let a = c.index-answers-which.result in
    let a_is : a ≡ get_or answers i answer.Null =
    c.index-answers-which.is ∙ get_or_default answers i a answer.Null inside_too in
    AddsParts-answer digits answers i (get_or digits i 0) a c.args.text.now.items c.loop-which.text.items
    c.push_answer.new.text.items inside inside_too refl a_is c.loop-which.invariant c.in_ok-push_answer.ensures

pub returns : goal.returns
returns c =
    let digits = c.args.digits.now in
    let answers = c.args.answers.now in
    let end : c.loop-which.which ≡ min (length digits) (length answers) =
    omega (arith, c.loop-which-test.false, c.loop-which.auto.which-end, c.min-which-end.ensures) in
    c.loop-which.invariant ∙ ap (λ t. c.args.text.now.items ++ parts t)
    (answer_texts-whole c.loop-which.which digits answers end)
