-- Ledgers stand further on after an item, and where they stood after none.
use Rattle.std.proofs.Common.{◌≡◌, ℕ, [], ◌∷◌, ◌++◌, sym, subst, ◌∙◌}
use Rattle.std.specs.Prelude.{OnOk, Result, Ok, Err}
use Rattle.cube_core.specs.Arrival.{Arrivals}
use Rattle.cube_core.specs.declared.change.Item.{Item}
use Rattle.cube_ledger.specs.Ledger.{AtSource, Enters, LedgerView, LedgerStandsAt}
use Rattle.cube_ledger.specs.Taking.{LedgerStandsFrom}
use Rattle.cube_ledger.proofs.RulingLaws.{AtSource-length}

-- a ledger that took an item, where memory didn't run out
pub ledger-further : {T E : Type 0} (taken : Result T E) (old new : LedgerView) (source : ℕ) (item : Item)
    → OnOk taken (AtSource (Enters old.schema item) source old new)
    → OnOk taken ((arrivals : Arrivals) → LedgerStandsAt old arrivals
    → LedgerStandsAt new (arrivals ++ (source, item) ∷ []))
    → OnOk taken ((first : LedgerView) (arrivals : Arrivals) → LedgerStandsFrom first old arrivals
    → LedgerStandsFrom first new (arrivals ++ (source, item) ∷ []))
ledger-further (Err fault) old new source item at stands = tt
ledger-further (Ok done) old new source item at stands = λ first arrivals from. record {
  schema = at.schema ∙ from.schema;
  all = AtSource-length _ source old new at ∙ from.all;
  stands_at = stands arrivals from.stands_at;
}

-- a ledger that is as it was
pub ledger-same : (old new : LedgerView) → new ≡ old → (first : LedgerView) (arrivals : Arrivals)
    → LedgerStandsFrom first old arrivals → LedgerStandsFrom first new arrivals
ledger-same old new same first arrivals from =
    subst (λ (l : LedgerView). LedgerStandsFrom first l arrivals) (sym same) from
