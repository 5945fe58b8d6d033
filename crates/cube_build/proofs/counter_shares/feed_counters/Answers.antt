use Rattle.std.proofs.Common.{◌≡◌, ◌≤◌, ◌∙◌, ℕ, ap, arith, get_or, length, map, subst, sym}
use Rattle.std.specs.Global.{Vec}
use Rattle.std.proofs.lemmas.List.{length-map}
use Rattle.cube_rings.specs.declared.gatherer.Gatherer.{Gatherer}
use Rattle.cube_build.specs.Counting.{CounterView}
use Rattle.cube_build.specs.CounterShares.{AreNewCounters, AreUnspent, MayJoin}
use Rattle.cube_build.proofs.CounterShareLaws.{HasCountedShares, counted-shares, counts-in-shares, may-join}
use Rattle.cube_build.proofs.CounterShareLaws.{stands-new}
use Rattle.cube_build.proofs.counter_shares.feed_counters.Given.{Over}
use Rattle.cube_build.proofs.counter_shares.feed_counters.Goals.{In-Ok, In_ok-wholes, After-swap_remove}
use Rattle.cube_build.proofs.counter_shares.feed_counters.Goals as goal

-- the counters are new, of the readers' sources
new : (g : Over) (c : In-Ok g) → AreNewCounters c.args.schema.now
    (length (map g.R.Read.remaining c.args.readers.items)) c.shares_of-shares.result c.args.conditions.now
    c.in-Ok.counters.items
new g c =
    subst (λ (n : ℕ). AreNewCounters c.args.schema.now n c.shares_of-shares.result c.args.conditions.now
    c.in-Ok.counters.items)
    (c.len-sources.ensures ∙ c.args.readers.ok.0 ∙ sym (length-map c.args.readers.items g.R.Read.remaining))
    c.in-Ok.ensures

pub feed_shares-requires-clause-new : goal.feed_shares-requires-clause-new
feed_shares-requires-clause-new g c κs within =
    stands-new c.args.schema.now (length (map g.R.Read.remaining c.args.readers.items)) c.shares_of-shares.result
    c.args.conditions.now c.in-Ok.counters.items (new g (goal.at.feed_shares-requires-clause-new g c).In-Ok)

-- they have taken the feeds in shares
taken : (g : Over) (c : In_ok-wholes g) → HasCountedShares c.args.schema.now
    (map g.R.Read.remaining c.args.readers.items) c.args.conditions.now c.in-Ok.counters c.in_ok-wholes.wholes.items
taken g c =
    counted-shares c.args.schema.now (map g.R.Read.remaining c.args.readers.items) c.shares_of-shares.result
    c.args.conditions.now c.in-Ok.counters c.in_ok-wholes.wholes.items c.shares_of-shares.ensures.0
    (new g (goal.at.In_ok-wholes g c).In-Ok) c.in_ok-wholes.ensures.taken

-- the one that is put together is that which they became
same : (g : Over) (c : After-swap_remove g)
    → c.swap_remove.result ≡ (taken g (goal.at.After-swap_remove g c).In_ok-wholes).whole
same g c =
    let all = taken g (goal.at.After-swap_remove g c).In_ok-wholes in
    c.swap_remove.ensures.value ∙ ap (λ wholes. get_or wholes 0 c.swap_remove.result) all.one

pub counted_together-requires : goal.counted_together-requires
counted_together-requires g c =
    let at = goal.at.counted_together-requires g c in
    let all = taken g at.In_ok-wholes in
    let few : length (map g.R.Read.remaining c.args.readers.items) ≤ 64 = omega (
      arith,
      length-map c.args.readers.items g.R.Read.remaining,
      c.args.readers.ok.0,
      c.requires.readers,
    ) in
    subst (λ (w : Gatherer (Vec CounterView)). AreUnspent w.builder.items → MayJoin w.builder.items)
    (sym (same g at.After-swap_remove))
    (may-join c.args.schema.now (map g.R.Read.remaining c.args.readers.items) c.shares_of-shares.result
    c.args.conditions.now c.in-Ok.counters c.in_ok-wholes.wholes.items few (new g at.In-Ok) all)

pub returns-in-Ok-counted_together-clause-counts : goal.returns-in-Ok-counted_together-clause-counts
returns-in-Ok-counted_together-clause-counts g c =
    let at = goal.at.returns-in-Ok-counted_together-clause-counts g c in
    counts-in-shares c.args.schema.now (map g.R.Read.remaining c.args.readers.items) c.shares_of-shares.result
    c.args.conditions.now c.in-Ok.counters c.in_ok-wholes.wholes.items c.swap_remove.result
    c.in-Ok-counted_together.gatherer c.in_ok-wholes.ensures.good (new g at.In-Ok) (taken g at.In_ok-wholes)
    (same g at.After-swap_remove) c.in-Ok-counted_together.ensures
