use Rattle.std.proofs.Common.{◌≡◌, ◌∙◌, ap, arith, false, length, refl, subst, sym}
use Rattle.std.proofs.lemmas.List.{length-map}
use Rattle.cube_core.specs.Arrival.{Arrivals, of_source}
use Rattle.cube_build.specs.Builder.{BuilderView}
use Rattle.cube_build.specs.Sharded.{AreCountsAt, AreUnitedCounts, Keeps, NoneWaits, ShardView, ShardedStandsFrom, ShardedView}
use Rattle.cube_build.proofs.ShardingLaws.{ledgers-alike, ledgers-count}
use Rattle.cube_build.proofs.UnitedLaws.{counts-at, if-both}
use Rattle.cube_build.proofs.sharded.ShardedLedger.finish.Goals as goal

pub put_together-requires-clause-schema : goal.put_together-requires-clause-schema
put_together-requires-clause-schema g c =
    rw (c.in_ok-ledgers.ensures.ledgers, c.schema.ensures.value)
    (ledgers-alike c.whole-2.inside.fresh c.whole-2.inside.shards.items c.whole-2.invariant)

pub put_together-requires-clause-most : goal.put_together-requires-clause-most
put_together-requires-clause-most g c =
    let count = ledgers-count c.in_ok-ledgers.ledgers.items c.in_ok-ledgers.ensures.one in
    let long : length c.in_ok-ledgers.ledgers.items ≡ length c.whole-2.inside.shards.items =
    ap length c.in_ok-ledgers.ensures.ledgers
    ∙ length-map c.whole-2.inside.shards.items (λ (shard : ShardView). shard.ledger) in
    omega (arith, count, long, c.whole-2.invariant.few)

pub returns : goal.returns
returns g c =
    let fresh = c.whole-2.inside.fresh in
    let settled : ShardedView = record {
      schema = fresh.schema;
      shards = c.whole-2.inside.shards.items;
      last = c.whole-2.inside.last;
      is_spent = c.whole-2.inside.is_spent;
    } in
    let keeps : Keeps c.args.self settled = rw (c.whole-2.view_is) c.in_ok-settle.ensures.keeps in
    let none : NoneWaits settled.shards =
    subst (λ (v : ShardedView). NoneWaits v.shards) (sym c.whole-2.view_is) c.in_ok-settle.ensures.none_waits in
    let unspent : c.args.self.is_spent ≡ false = rw (← c.whole.view_is) c.if-whole.false in
    let Counts : BuilderView → Type 0 = λ counts.
    (first : ShardedView) (arrivals : Arrivals) → ShardedStandsFrom first c.args.self arrivals
    → AreCountsAt c.args.conditions.now first.schema arrivals counts in
    let United : BuilderView → Type 0 = AreUnitedCounts c.args.conditions.now c.in_ok-apart.apart in
    if-both c.unite.result United United Counts (λ counts are again first arrivals stands.
    let was = stands unspent in
    counts-at c.args.conditions.now first settled fresh c.in_ok-apart.apart c.in_ok-ledgers.ledgers.items arrivals counts
    c.whole-2.invariant refl (keeps.schema ∙ was.schema) none (keeps.came (of_source arrivals 1) was.came)
    c.in_ok-ledgers.ensures.ledgers c.in_ok-ledgers.ensures.one
    (c.in_ok-apart.ensures.schema ∙ c.schema.ensures.value) c.in_ok-apart.ensures.accounts are) c.unite.ensures
    c.unite.ensures
