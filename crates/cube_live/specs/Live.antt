-- A cube that is kept right:
-- the ledger of all 64 sources, and the number of the last record of each that was taken (this project's choice).
use Rattle.std.specs.Prelude.{◌≡◌, ◌≤◌, ◌<◌, ◌+◌, ◌-◌, ◌++◌, ◌∷◌, [], ⊤, ℕ, List, length, get_or, None, Result}
use Rattle.std.specs.List.{last_or}
use Rattle.std.specs.Option.{option_map_or}
use Rattle.cube_core.specs.Arrival.{Arrivals, of_source}
use Rattle.cube_core.specs.Layout.{Layout, number_of_dimensions}
use Rattle.cube_core.specs.declared.change.Change.{Change}
use Rattle.cube_core.specs.declared.change.Item.{Item}
use Rattle.cube_core.specs.declared.change.LineFault.{LineFault}
use Rattle.cube_ledger.specs.Ledger.{LedgerView, LedgerStandsAt}
use Rattle.cube_live.specs.declared.live.LiveFault.{LiveFault}
use Rattle.cube_live.specs.declared.live.LiveFault.TheVariants.{TooMany, Memory}
use Rattle.cube_live.specs.declared.request.Question.{Question}
use Rattle.cube_live.specs.declared.request.Question.TheVariants.{Print, Slice, Drill, RollUp, Refusals, RefusalsAfter}
use Rattle.cube_live.specs.declared.request.Question.TheVariants.{Sync}

-- the schema, the books and the refusals,
-- and the number of the last record of each source that was taken, 0 where none was
pub record LiveView : Type 0 where
  pub schema : Layout
  pub ledger : LedgerView
  pub numbers : List ℕ

-- what is true of it always:
-- its ledger is of the schema and 64 sources, and no source has a record past those that the schema takes
pub record IsLive (s : Layout) (ledger : LedgerView) (numbers : List ℕ) : Type 0 where
  pub schema : ledger.schema ≡ s
  pub sources : length ledger.accounts ≡ 64
  pub numbered : length numbers ≡ 64
  pub at_most : (place : ℕ) → get_or numbers place 0 ≤ s.max_records

-- the number of the last item, or 0 where there is none
abbrev pub last_number : List Item → ℕ
last_number items = option_map_or (λ (item : Item). item.number) (last_or None items) 0

-- the next item of a source at an arrival list, which says this: it is numbered on from the source's last
abbrev pub said_item : Arrivals → ℕ → Result Change LineFault → Item
said_item arrivals source what = record { number = last_number (of_source arrivals source) + 1; what = what }

-- each of these numbers is that of the last item that an arrival list has of its source, of the 64
abbrev pub AreLast : List ℕ → Arrivals → Type 0
AreLast numbers arrivals =
    (source : ℕ) → 1 ≤ source → source ≤ 64 → get_or numbers (source - 1) 0 ≡ last_number (of_source arrivals source)

-- it stands at an arrival list: the ledger does, and its numbers are those of the list's last items
pub record LiveStandsAt (live : LiveView) (arrivals : Arrivals) : Type 0 where
  pub ledger : LedgerStandsAt live.ledger arrivals
  pub numbers : AreLast live.numbers arrivals

-- it took what the next record of a source says
abbrev pub TakesNext : ℕ → Result Change LineFault → LiveView → LiveView → Type 0
TakesNext source what old new =
    (arrivals : Arrivals) → LiveStandsAt old arrivals
    → LiveStandsAt new (arrivals ++ (source, said_item arrivals source what) ∷ [])

-- nothing changed that counts
pub record SameLive (old new : LiveView) : Type 0 where
  pub ledger : new.ledger ≡ old.ledger
  pub numbers : new.numbers ≡ old.numbers

-- why a record wasn't taken: its source has the last that the schema takes; memory may run out at any time
abbrev pub ExplainsLive : ℕ → LiveView → LiveFault → Type 0
ExplainsLive source live TooMany = get_or live.numbers (source - 1) 0 ≡ live.schema.max_records
ExplainsLive source live Memory = ⊤

-- a question is one that can be asked of a cube of so many dimensions:
-- its dimension is one of them, its key has a coordinate for each, and its source is one of the 64
abbrev pub CanAskOver : ℕ → Question → Type 0
CanAskOver dimensions Print = ⊤
CanAskOver dimensions (Slice pattern) = ⊤
CanAskOver dimensions (Drill key dimension) = (dimension < dimensions) × (length key.coords ≡ dimensions)
CanAskOver dimensions (RollUp key dimension) = (dimension < dimensions) × (length key.coords ≡ dimensions)
CanAskOver dimensions Refusals = ⊤
CanAskOver dimensions (RefusalsAfter source number) = (1 ≤ source) × (source ≤ 64)
CanAskOver dimensions Sync = ⊤

-- a question is one that can be asked under a schema: of its cube
abbrev pub CanAsk : Layout → Question → Type 0
CanAsk s question = CanAskOver (number_of_dimensions s) question
