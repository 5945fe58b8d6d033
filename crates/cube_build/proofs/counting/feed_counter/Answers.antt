use Rattle.std.proofs.Common.{◌≡◌, ◌∙◌, ℕ, arith, length, map, subst, sym, vec_len}
use Rattle.std.proofs.lemmas.List.{length-map}
use Rattle.cube_build.specs.Counting.{IsOneCounter}
use Rattle.cube_build.proofs.CountingLaws.{counts-feeds, gathered-some, new-counters}
use Rattle.cube_build.proofs.counting.feed_counter.Given.{Over}
use Rattle.cube_build.proofs.counting.feed_counter.Goals.{In-Ok}
use Rattle.cube_build.proofs.counting.feed_counter.Goals as goal

-- the counter is new, of the readers' sources
new : (g : Over) (c : In-Ok g) → IsOneCounter c.args.schema.now (vec_len c.args.readers) c.args.conditions.now
    c.in-Ok.counters.items
new g c = subst (λ (n : ℕ). IsOneCounter c.args.schema.now n c.args.conditions.now c.in-Ok.counters.items)
    c.len.ensures c.in-Ok.ensures

pub feed_all-requires-clause-new : goal.feed_all-requires-clause-new
feed_all-requires-clause-new g c κs within =
    new-counters c.args.schema.now (vec_len c.args.readers) c.args.conditions.now c.in-Ok.counters.items
    (new g (goal.at.feed_all-requires-clause-new g c).In-Ok)

-- there is a gatherer
pub swap_remove-requires : goal.swap_remove-requires
swap_remove-requires g c =
    let some = gathered-some c.args.schema.now (map g.R.Read.remaining c.args.readers.items)
    (vec_len c.args.readers) c.args.conditions.now c.in-Ok.counters.items c.in_ok-gatherers.gatherers.items
    (new g (goal.at.swap_remove-requires g c).In-Ok) c.in_ok-gatherers.ensures.taken in
    omega (arith, some, c.in_ok-gatherers.gatherers.ok.0)

pub returns-clause-counts : goal.returns-clause-counts
returns-clause-counts g c =
    let count : vec_len c.args.readers ≡ length (map g.R.Read.remaining c.args.readers.items) =
    c.args.readers.ok.0 ∙ sym (length-map c.args.readers.items g.R.Read.remaining) in
    counts-feeds c.args.schema.now c.args.conditions.now (map g.R.Read.remaining c.args.readers.items)
    c.in-Ok.counters.items c.in_ok-gatherers.gatherers.items c.swap_remove.result c.in_ok-gatherers.ensures.good
    (subst (λ (n : ℕ). IsOneCounter c.args.schema.now n c.args.conditions.now c.in-Ok.counters.items) count
    (new g (goal.at.returns-clause-counts g c).In-Ok))
    c.in_ok-gatherers.ensures.taken c.swap_remove.ensures.value
