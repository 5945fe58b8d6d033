use Rattle.std.proofs.Common.{◌≡◌, ◌∷◌, ◌++◌, [], ◌∙◌, List, ap, rules, subst, sym, append_assoc}
use Rattle.cube_core.specs.declared.change.Item.{Item}
use Rattle.cube_ledger.specs.Ledger.{AccountStandsAt, account_of}
use Rattle.cube_build.proofs.ShardLedgerLaws.{entered, entered-one, nil-from}
use Rattle.std.proofs.lemmas.List.{append-nil}
use Rattle.cube_build.proofs.shard_ledger.enter_all.Goals as goal

pub loop-item-preserved : goal.loop-item-preserved
loop-item-preserved c =
    let loop = c.loop-item in
    let was = loop.invariant in
    let item = c.in-Some.item in
    let rest = c.next.new.self.rest.items in
    let left : loop.item-iterator.rest.items ≡ item ∷ rest = search rules in
    let at = c.in_ok-apply_fed.ensures.enters in
    let s = c.args.ledger.now.schema in (
      at.schema ∙ was.0,
      entered-one loop.ledger c.apply_fed.new.self item was.1 at,
      λ done stands. subst (λ (l : List Item). AccountStandsAt s l (account_of c.apply_fed.new.self 1))
          (append_assoc done loop.yielded (item ∷ []))
          (entered s loop.ledger c.apply_fed.new.self item was.0 was.1 at (done ++ loop.yielded) (was.2 done stands)),
      append_assoc loop.yielded (item ∷ []) rest ∙ ap (λ r. loop.yielded ++ r) (sym left) ∙ was.3,
    )

pub returns-clause-stands : goal.returns-clause-stands
returns-clause-stands c = λ done stands.
    let loop = c.loop-item in
    let over : loop.item-iterator.rest.items ≡ [] = nil-from loop.item-iterator.rest.items (search rules) in
    let all : loop.yielded ≡ c.args.items.items =
    sym (append-nil loop.yielded) ∙ ap (λ rest. loop.yielded ++ rest) (sym over) ∙ loop.invariant.3 in
    subst (λ (l : List Item). AccountStandsAt c.args.ledger.now.schema (done ++ l) (account_of loop.ledger 1)) all
    (loop.invariant.2 done stands)
