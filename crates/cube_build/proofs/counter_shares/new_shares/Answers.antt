use Rattle.std.proofs.Common.{◌≡◌, ◌+◌, ◌-◌, ◌/◌, ◌∙◌, ap, length, arith}
use Rattle.std.proofs.Math.Nat.{div-le_self}
use Rattle.std.proofs.lemmas.List.{length-replicate}
use Rattle.std.proofs.lemmas.List.Elements.{All-push}
use Rattle.std.proofs.lemmas.List.Sums.{sum_by_push}
use Rattle.cube_ledger.specs.Ledger.{new_account}
use Rattle.cube_rings.proofs.PlaceLaws.{length-one_more}
use Rattle.cube_build.specs.Counting.{IsNewCounter}
use Rattle.cube_build.specs.CounterShares.{counter_sources}
use Rattle.cube_build.proofs.ShareLaws.{all-left}
use Rattle.cube_build.proofs.counter_shares.new_shares.Goals as goal

pub loop-share-preserved : goal.loop-share-preserved
loop-share-preserved g c =
    let loop = c.loop-share in
    let was = loop.invariant in
    let counter = c.in_ok-new.field-0 in
    let shares = c.args.shares - loop.share in
    let count = loop.left / shares in
    let has : counter_sources counter ≡ count =
    ap length c.in_ok-new.ensures.accounts ∙ length-replicate count new_account in
    let own = sum_by_push counter_sources loop.counters.items counter in
    rw c.in_ok-push.ensures.items (
      length-one_more loop.counters.items counter ∙ ap (λ n. n + 1) was.0,
      omega (arith, own, has, was.1, div-le_self loop.left shares),
      All-push (λ counter. IsNewCounter c.args.schema.now (counter_sources counter) c.args.conditions.now counter)
          loop.counters.items counter was.2 (rw has c.in_ok-new.ensures),
      λ at. all-left loop.left shares (omega (arith, at)),
    )
