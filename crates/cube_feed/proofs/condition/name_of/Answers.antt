use Rattle.std.proofs.Common.{◌∙◌, ap}
use Rattle.std.specs.Prelude.{[], None, filter}
use Rattle.std.proofs.lemmas.List.{append-nil}
use Rattle.cube_core.specs.Conditions.{is_named, longest}
use Rattle.cube_feed.specs.Words.{longest_before}
use Rattle.cube_feed.proofs.ConditionLaws.{longest-before}
use Rattle.cube_feed.proofs.condition.name_of.Goals as goal

pub returns : goal.returns
returns c =
    let word = c.args.word.now in
    let s = c.args.schema.now in
    let measures = c.longest_before-measures.ensures
    ∙ ap (λ names. longest_before word names None) c.measures.ensures.value ∙ longest-before word s.measures []
    ∙ ap (λ names. longest (filter (is_named word) names)) (append-nil s.measures) in
    c.longest_before.ensures
    ∙ (λ i. longest_before word (c.dimensions.ensures.value i) (measures i))
    ∙ longest-before word s.dimensions s.measures
