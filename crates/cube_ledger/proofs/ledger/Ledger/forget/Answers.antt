use Rattle.std.proofs.Common.{◌≡◌, ◌++◌, ◌∙◌, length, map, take, drop, ap, rules}
use Rattle.std.proofs.lemmas.List.{length-map}
use Rattle.cube_ledger.specs.Ledger.{without_facts}
use Rattle.cube_ledger.proofs.LedgerLaws.{IsLedger-without_facts}
use Rattle.cube_ledger.proofs.InterestLaws.{written-back}
use Rattle.cube_ledger.proofs.ledger.Ledger.forget.Goals as goal

pub invariant_of-self : goal.invariant_of-self
invariant_of-self g c =
    let old = c.self.inside.accounts in
    let new = c.forget_facts.new.accounts in
    let kept : new ≡ map without_facts old.items =
    c.forget_facts.ensures ∙ ap (map without_facts) c.as_mut_slice.ensures.value in
    let long : length new ≡ length old.items = ap length kept ∙ length-map old.items without_facts in
    let whole : take old.len (new ++ drop (length new) old.items) ≡ new =
    written-back old.items new old.len (search rules) long in
    rw (whole ∙ kept) (IsLedger-without_facts c.self.inside.schema old.items c.self.invariant)
