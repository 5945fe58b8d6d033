use Rattle.std.proofs.Common.{◌≡◌, ◌++◌, ◌∷◌, [], ◌∙◌, List, ap, append_assoc, rules, sym}
use Rattle.std.proofs.lemmas.List.{map-append}
use Rattle.std.proofs.lemmas.List.Elements.{All-push}
use Rattle.cube_ledger.specs.Ledger.{LedgerView}
use Rattle.cube_live.specs.Opening.{IsUnnumbered, OpeningView, opening_ledgers}
use Rattle.cube_live.proofs.opening.openings_of.Goals as goal

pub loop-ledger-preserved : goal.loop-ledger-preserved
loop-ledger-preserved c =
    let loop = c.loop-ledger in
    let was = loop.invariant in
    let opening : OpeningView = c.in_ok-of.field-0 in
    let done : List LedgerView = opening_ledgers loop.openings.items in
    let rest = c.next.new.self.rest.items in
    let left : loop.ledger-iterator.rest.items ≡ c.in-Some.ledger ∷ rest = search rules in
    rw c.in_ok-push.ensures.items (
      ap (λ (ledgers : List LedgerView). ledgers ++ rest)
          (map-append (λ (o : OpeningView). o.ledger) loop.openings.items (opening ∷ []))
          ∙ append_assoc done (opening.ledger ∷ []) rest
          ∙ ap (λ (ledger : LedgerView). done ++ ledger ∷ rest) c.in_ok-of.ensures.ledger
          ∙ ap (λ (ledgers : List LedgerView). done ++ ledgers) (sym left) ∙ was.0,
      All-push IsUnnumbered loop.openings.items opening was.1 c.in_ok-of.ensures.numbers,
    )
