use Rattle.std.proofs.Common.{◌≡◌, ◌<◌, ◌∙◌, ap, arith, false, get_or, length, rules}
use Rattle.std.specs.Prelude.{is_err}
use Rattle.std.proofs.lemmas.List.{get_or_default}
use Rattle.cube_build.specs.Sharded.{ShardView, shard_of_what, with_waiting}
use Rattle.cube_build.proofs.ShardLedgerLaws.{awaits-made, unless-err}
use Rattle.cube_build.proofs.sharded.ShardedLedger.put_in.Goals as goal

pub returns-clause-awaits : goal.returns-clause-awaits
returns-clause-awaits g c =
    let shards = c.self.inside.shards.items in
    let place = c.shard_of_item-place.result in
    let item = c.args.item in
    let long : c.len.result ≡ length shards = search rules in
    let own : place ≡ shard_of_what (length shards) item.what =
    c.shard_of_item-place.ensures.shard ∙ ap (λ n. shard_of_what n item.what) long in
    let within : place < length shards = omega (arith, c.shard_of_item-place.ensures.within, long) in
    let above : c.self.inside.last < c.number-number.result = search rules in
    let at : c.index_mut.result.now ≡ get_or shards place c.index_mut.result.now = search rules in
    let went : is_err c.wait.result ≡ false = search rules in
    let waits : c.wait.new.self ≡ with_waiting c.index_mut.result.now item =
    unless-err c.wait.result (c.wait.new.self ≡ with_waiting c.index_mut.result.now item) c.wait.ensures.waits went in
    rw (← c.self.view_is)
    (awaits-made item c.self.inside.fresh.schema shards c.self.inside.last place c.number-number.result
    c.self.inside.is_spent c.wait.new.self c.if-self.false own within above c.number-number.ensures
    (λ d. waits ∙ ap (λ (shard : ShardView). with_waiting shard item)
    (at ∙ get_or_default shards place c.index_mut.result.now d within)))
