use Rattle.std.proofs.Common.{◌≡◌, ◌++◌, ◌∙◌, length, map, take, drop, ap, rules}
use Rattle.std.proofs.lemmas.List.{length-map}
use Rattle.cube_ledger.specs.Interest.{account_of_interest}
use Rattle.cube_ledger.proofs.InterestLaws.{IsLedger-of_interest, ledger_of_interest-none, written-back}
use Rattle.cube_ledger.proofs.ledger.Ledger.keep.Goals as goal

pub invariant_of-self : goal.invariant_of-self
invariant_of-self c =
    let old = c.self.inside.accounts in
    let new = c.keep_of_interest.new.accounts in
    let keep = account_of_interest c.args.conditions.now in
    let kept : new ≡ map keep old.items =
    c.keep_of_interest.ensures ∙ ap (map keep) c.as_mut_slice.ensures.value in
    let long : length new ≡ length old.items = ap length kept ∙ length-map old.items keep in
    let whole : take old.len (new ++ drop (length new) old.items) ≡ new =
    written-back old.items new old.len (search rules) long in
    rw (whole ∙ kept)
    (IsLedger-of_interest c.args.conditions.now c.self.inside.schema old.items c.self.invariant)

pub returns-else-not-is_empty : goal.returns-else-not-is_empty
returns-else-not-is_empty c =
    ledger_of_interest-none c.args.conditions.now c.args.self.now c.if-not-is_empty.ensures
