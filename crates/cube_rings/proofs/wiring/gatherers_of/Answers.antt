use Rattle.std.proofs.Common.{rules, ◌≡◌, ◌∷◌, ◌++◌, [], ◌∙◌, ap, sym}
use Rattle.std.proofs.lemmas.Iterator.Adapters.{YieldsList-from_vec}
use Rattle.std.proofs.lemmas.Iterator.Consumers.{YieldsList-end}
use Rattle.std.proofs.lemmas.List.{map-append, map-id}
use Rattle.std.proofs.lemmas.List.Elements.{All-push}
use Rattle.cube_rings.proofs.wiring.gatherers_of.Goals as goal

pub loop-builder-preserved : goal.loop-builder-preserved
loop-builder-preserved g c =
    let loop = c.loop-builder in
    rw c.in_ok-push.ensures.items (
      map-append (λ gatherer. gatherer.builder) loop.gatherers.items _
          ∙ ap (λ builders. builders ++ c.in-Some.builder ∷ []) loop.invariant.0,
      All-push (λ gatherer. gatherer.inlets.items ≡ []) loop.gatherers.items _ loop.invariant.1
          c.in_ok-inlets.ensures.items,
    )

pub returns-clause-builders : goal.returns-clause-builders
returns-clause-builders g c =
    let loop = c.loop-builder in
    let gives = c.into_iter-builder-iterator.ensures.into_iter_gives in
    let from = YieldsList-from_vec c.args.builders.items (search (rules, gives)) (search (rules, gives)) in
    let ends = YieldsList-end from loop.yielded loop.builder-iterator loop.yielded_by c.next.result c.next.new.self
    c.in-None.is c.next.ensures.steps in
    loop.invariant.0 ∙ sym (map-id loop.yielded) ∙ ends.0
