-- Ledgers of the facts of interest alone (this project's choice).
use Rattle.std.specs.Prelude.{List, map, filter}
use Rattle.cube_core.specs.Conditions.{hold}
use Rattle.cube_core.specs.declared.condition.Condition.{Condition}
use Rattle.cube_ledger.specs.Book.{Entries}
use Rattle.cube_ledger.specs.Ledger.{AccountView, LedgerView}

-- the entries of a book whose facts are of interest: those of which all conditions hold
abbrev pub entries_of_interest : List Condition → Entries → Entries
entries_of_interest conditions book = filter (λ entry. hold conditions entry.1) book

-- an account whose book has the facts of interest alone; its refusals stay
abbrev pub account_of_interest : List Condition → AccountView → AccountView
account_of_interest conditions account =
    record { book = entries_of_interest conditions account.book; refusals = account.refusals }

-- a ledger whose books have the facts of interest alone; schema, sources and refusals stay
abbrev pub ledger_of_interest : List Condition → LedgerView → LedgerView
ledger_of_interest conditions ledger =
    record { schema = ledger.schema; accounts = map (account_of_interest conditions) ledger.accounts }
