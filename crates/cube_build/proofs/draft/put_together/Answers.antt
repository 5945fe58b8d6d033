use Rattle.std.proofs.Common.{rules, ◌≡◌, ◌∷◌, ◌++◌, List, [], ◌∙◌, ap, sym, length, flat_map, sum_by, arith}
use Rattle.std.proofs.Common.{append_assoc}
use Rattle.std.proofs.lemmas.List.{append-nil, flat_map_more, length-append}
use Rattle.std.proofs.lemmas.List.Elements.{All-tail}
use Rattle.std.proofs.lemmas.List.Sums.{sum_by-cons}
use Rattle.cube_ledger.specs.Ledger.{LedgerView}
use Rattle.cube_build.proofs.ShareLaws.{sources_of}
use Rattle.cube_build.proofs.draft.put_together.Goals as goal

nil : {A : Type 0} (xs : List A) → length xs ≡ 0 → xs ≡ []
nil [] is = cc
nil (x ∷ xs) is = absurd (omega (arith, is))

pub append-requires-clause-schema : goal.append-requires-clause-schema
append-requires-clause-schema c =
    let loop = c.loop-ledger in
    let left : loop.ledger-iterator.rest.items ≡ c.in-Some.ledger ∷ c.next.new.self.rest.items = search rules in
    (rw left at loop.invariant.2) 0 c.in-Some.ledger (omega arith) ∙ sym loop.invariant.0

pub append-requires-clause-most : goal.append-requires-clause-most
append-requires-clause-most c =
    let loop = c.loop-ledger in
    let left : loop.ledger-iterator.rest.items ≡ c.in-Some.ledger ∷ c.next.new.self.rest.items = search rules in
    let sum = ap (sum_by sources_of) left ∙ sum_by-cons sources_of c.in-Some.ledger c.next.new.self.rest.items in
    omega (arith, sum, loop.invariant.3)

pub loop-ledger-preserved : goal.loop-ledger-preserved
loop-ledger-preserved c =
    let loop = c.loop-ledger in
    let was = loop.invariant in
    let ledger = c.in-Some.ledger in
    let rest = c.next.new.self.rest.items in
    let left : loop.ledger-iterator.rest.items ≡ ledger ∷ rest = search rules in
    let sum = ap (sum_by sources_of) left ∙ sum_by-cons sources_of ledger rest in
    let accounts = c.in_ok-append.ensures.accounts in (
      c.in_ok-append.ensures.schema ∙ was.0,
      accounts ∙ ap (λ a. a ++ ledger.accounts) was.1
          ∙ flat_map_more (λ (l : LedgerView). l.accounts) [] loop.yielded ledger,
      All-tail (λ l. l.schema ≡ c.args.schema.now) ledger rest (rw left at was.2),
      omega (arith, sum, was.3, ap length accounts, length-append loop.whole.accounts ledger.accounts),
      append_assoc loop.yielded (ledger ∷ []) rest ∙ ap (λ r. loop.yielded ++ r) (sym left) ∙ was.4,
    )

pub returns-clause-accounts : goal.returns-clause-accounts
returns-clause-accounts c =
    let loop = c.loop-ledger in
    let done : loop.ledger-iterator.rest.items ≡ [] = nil loop.ledger-iterator.rest.items (search rules) in
    let all : loop.yielded ≡ c.args.ledgers.items =
    sym (append-nil loop.yielded) ∙ ap (λ rest. loop.yielded ++ rest) (sym done) ∙ loop.invariant.4 in
    loop.invariant.1 ∙ ap (flat_map (λ (l : LedgerView). l.accounts)) all
