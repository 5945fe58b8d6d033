use Rattle.std.proofs.Common.{rules, ◌≡◌, ◌∷◌, ◌++◌, [], ◌∙◌, sym, ap, false}
use Rattle.std.proofs.lemmas.Iterator.Adapters.{YieldsList-from_vec}
use Rattle.std.proofs.lemmas.Iterator.Consumers.{YieldsList-end}
use Rattle.std.proofs.lemmas.List.{map-append, map-id}
use Rattle.std.proofs.lemmas.List.Elements.{All-push}
use Rattle.cube_rings.proofs.WholeLaws.{inlets-push}
use Rattle.cube_rings.proofs.shares.put_together.Goals as goal
use Rattle.cube_rings.proofs.shares.put_together.Goals.{then-wanting, else-wanting}

pub loop-share-preserved : goal.loop-share-preserved
loop-share-preserved g c =
    let loop = c.loop-share in
    let share = c.in-Some.share in (
      map-append (λ share. share.builder) loop.yielded (share ∷ [])
          ∙ ap (λ builders. builders ++ share.builder ∷ []) loop.invariant.0 ∙ sym c.in_ok-push.ensures.items,
      inlets-push loop.yielded share
          ∙ ap (λ inlets. inlets ++ share.inlets.items) loop.invariant.1 ∙ sym c.in_ok-append.ensures.items,
      λ off. elim c.if-wanting.branch [
        | then-wanting w ↦ cc
        | else-wanting w ↦
            All-push (λ share. share.wanting ≡ false) loop.yielded share (loop.invariant.2 w.if-wanting.false)
            (sym w.wanting-is ∙ off)
      ],
    )

pub returns : goal.returns
returns g c =
    let loop = c.loop-share in
    let gives = c.into_iter-share-iterator.ensures.into_iter_gives in
    let ends = YieldsList-end (YieldsList-from_vec c.args.shares.items (search (rules, gives)) (search (rules, gives)))
    loop.yielded loop.share-iterator loop.yielded_by c.next.result c.next.new.self c.in-None.is c.next.ensures.steps in
    let all : loop.yielded ≡ c.args.shares.items = sym (map-id loop.yielded) ∙ ends.0 in
    rw (← all) (record {
      builders = loop.invariant.0;
      inlets = loop.invariant.1;
      enough = loop.invariant.2;
    })
