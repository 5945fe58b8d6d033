use Rattle.std.proofs.Common.{◌≡◌, ◌∷◌, ◌++◌, [], ◌∙◌, ap, append_assoc, length, map, rules, sym}
use Rattle.std.proofs.lemmas.List.{append-nil, map-append}
use Rattle.std.proofs.lemmas.List.Elements.{All-push}
use Rattle.cube_ledger.specs.Ledger.{LedgerView}
use Rattle.cube_build.specs.Sharded.{ShardView}
use Rattle.cube_build.proofs.ShardLedgerLaws.{nil-from}
use Rattle.cube_build.proofs.sharded.ledgers_of.Goals as goal

pub loop-shard-preserved : goal.loop-shard-preserved
loop-shard-preserved c =
    let loop = c.loop-shard in
    let was = loop.invariant in
    let shard = c.in-Some.shard in
    let rest = c.next.new.self.rest.items in
    let left : loop.shard-iterator.rest.items ≡ shard ∷ rest = search rules in
    let ledger = c.into_ledger.result in
    let is = c.into_ledger.ensures.value in
    rw c.in_ok-push.ensures.items (
      (λ i. was.0 i ++ is i ∷ []) ∙ sym (map-append (λ (s : ShardView). s.ledger) loop.yielded (shard ∷ [])),
      All-push (λ (l : LedgerView). length l.accounts ≡ 1) loop.ledgers.items ledger was.1 c.into_ledger.ensures.one,
      append_assoc loop.yielded (shard ∷ []) rest ∙ ap (λ r. loop.yielded ++ r) (sym left) ∙ was.2,
    )

pub returns-clause-ledgers : goal.returns-clause-ledgers
returns-clause-ledgers c =
    let loop = c.loop-shard in
    let over : loop.shard-iterator.rest.items ≡ [] = nil-from loop.shard-iterator.rest.items (search rules) in
    let all : loop.yielded ≡ c.args.shards.items =
    sym (append-nil loop.yielded) ∙ ap (λ rest. loop.yielded ++ rest) (sym over) ∙ loop.invariant.2 in
    loop.invariant.0 ∙ ap (map (λ (s : ShardView). s.ledger)) all
