use Rattle.std.proofs.Common.{◌≡◌, ◌+◌, ◌-◌, ◌/◌, [], ◌∙◌, ap, length, arith}
use Rattle.std.proofs.Math.Nat.{div-le_self}
use Rattle.std.proofs.lemmas.List.{length-replicate}
use Rattle.std.proofs.lemmas.List.Elements.{All-push}
use Rattle.std.proofs.lemmas.List.Sums.{sum_by_push}
use Rattle.cube_ledger.specs.Ledger.{LedgerStandsAt, new_account}
use Rattle.cube_rings.proofs.PlaceLaws.{length-one_more}
use Rattle.cube_build.proofs.ShareLaws.{all-left, sources_of}
use Rattle.cube_build.proofs.shares.new_ledgers.Goals as goal

pub loop-share-preserved : goal.loop-share-preserved
loop-share-preserved c =
    let loop = c.loop-share in
    let was = loop.invariant in
    let ledger = c.in_ok-new.field-0 in
    let shares = c.args.shares - loop.share in
    let count = loop.left / shares in
    let has : length ledger.accounts ≡ count =
    ap length c.in_ok-new.ensures.accounts ∙ length-replicate count new_account in
    let own = sum_by_push sources_of loop.ledgers.items ledger in
    rw c.in_ok-push.ensures.items (
      length-one_more loop.ledgers.items ledger ∙ ap (λ n. n + 1) was.0,
      omega (arith, own, has, was.1, div-le_self loop.left shares),
      All-push (λ l. l.schema ≡ c.args.schema.now) loop.ledgers.items ledger was.2 c.in_ok-new.ensures.schema,
      All-push (λ l. LedgerStandsAt l []) loop.ledgers.items ledger was.3 c.in_ok-new.ensures.stands,
      λ at. all-left loop.left shares (omega (arith, at)),
    )
