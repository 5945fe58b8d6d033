use Rattle.std.proofs.Common.{◌≡◌, ◌≤◌, ◌+◌, ◌++◌, ◌∷◌, [], ◌∙◌, ap, get_or, map, rules, sym, take}
use Rattle.std.proofs.lemmas.List.{map-append, take_all, take_more}
use Rattle.std.proofs.lemmas.List.Elements.{All-push}
use Rattle.cube_core.specs.Text.{digits_of}
use Rattle.cube_core.specs.declared.aggregate.Agg.TheVariants.{CountAll}
use Rattle.cube_text.proofs.print.digits_of_answers.Goals as goal

pub loop-aggregate-preserved : goal.loop-aggregate-preserved
loop-aggregate-preserved c =
    let before = c.loop-aggregate.invariant in
    let s = c.args.schema.now in
    let i = c.loop-aggregate.aggregate-index in
    let aggregates = c.aggregates-aggregates.result.now in
    let digits = c.loop-aggregate.digits.items in
    let k = c.digits_of.result in
    let k_is : k ≡ digits_of s (get_or aggregates i CountAll) = search rules in
    let more : map (digits_of s) (take (i + 1) aggregates) ≡ map (digits_of s) (take i aggregates) ++ k ∷ [] =
    ap (map (digits_of s)) (take_more aggregates i CountAll c.loop-aggregate-test.true)
    ∙ map-append (digits_of s) (take i aggregates) (get_or aggregates i CountAll ∷ [])
    ∙ ap (λ n. map (digits_of s) (take i aggregates) ++ n ∷ []) (sym k_is) in
    rw c.in_ok-push.ensures.items (record {
      value = ap (λ t. t ++ k ∷ []) before.value ∙ sym more;
      few = All-push (λ n. n ≤ 18) digits k before.few c.digits_of.ensures.few;
    })

pub returns-clause-value : goal.returns-clause-value
returns-clause-value c =
    let s = c.args.schema.now in
    let aggregates = c.aggregates-aggregates.result.now in
    c.loop-aggregate.invariant.value
    ∙ ap (map (digits_of s)) (take_all c.loop-aggregate.aggregate-index aggregates c.loop-aggregate-test.false
    ∙ c.aggregates-aggregates.ensures.value)
