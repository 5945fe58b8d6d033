use Rattle.std.proofs.Common.{◌≡◌, ◌++◌, ◌∷◌, [], sym, subst, get_or, take, rules}
use Rattle.std.specs.List.{AllZip}
use Rattle.std.proofs.lemmas.List.{take_more, take_all}
use Rattle.cube_core.specs.Merged.{IsMerged}
use Rattle.cube_core.proofs.ListLaws.{AllZip-push}
use Rattle.cube_merge.specs.Source.{IsSourceOf}
use Rattle.cube_merge.specs.declared.source.Source.TheVariants as source
use Rattle.cube_merge.proofs.LeastLaws.{AllZip-nil, AllZip-last}
use Rattle.cube_merge.proofs.step.put_answers.Goals as goal

pub loop-source-init : goal.loop-source-init
loop-source-init c given wanted rows made sources =
    rw c.clear.ensures.items (AllZip-nil (IsSourceOf given) (IsMerged given rows) wanted sources)

pub loop-source-preserved : goal.loop-source-preserved
loop-source-preserved c given wanted rows made sources =
    let i = c.loop-source.source-index in
    let at = get_or c.args.sources.now i (source.Made 0) in
    let all : AllZip (IsSourceOf given) wanted (take i c.args.sources.now ++ at ∷ []) =
    rw (sym (take_more c.args.sources.now i (source.Made 0) c.loop-source-test.true)) sources in
    let last = AllZip-last (IsSourceOf given) wanted (take i c.args.sources.now) at all in
    let pushed : c.push.new.self.items ≡ c.loop-source.answers.items ++ c.in_ok-answer.answer ∷ [] = search rules in
    rw (pushed, last.2)
    (AllZip-push (IsMerged given rows) last.0 c.loop-source.answers.items last.1 c.in_ok-answer.answer
    (c.loop-source.invariant given last.0 rows made last.3) (c.in_ok-answer.ensures given rows last.1 made last.4))

pub returns : goal.returns
returns c given wanted rows made sources =
    c.loop-source.invariant given wanted rows made (subst (AllZip (IsSourceOf given) wanted)
    (sym (take_all c.loop-source.source-index c.args.sources.now c.loop-source-test.false)) sources)
