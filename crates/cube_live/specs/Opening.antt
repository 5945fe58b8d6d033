-- The opening of a session:
-- the feeds of the first sources are taken to their ends before its first record (this project's choice).
use Rattle.std.specs.Prelude.{◌≡◌, ◌≤◌, ◌<◌, ◌++◌, [], ℕ, List, flat_map, length, get_or, map, replicate}
use Rattle.std.specs.List.{All, AllZip}
use Rattle.cube_core.specs.Arrival.{Arrivals, of_source, of_sources}
use Rattle.cube_core.specs.Layout.{Layout}
use Rattle.cube_core.specs.Run.{SourceBytes, AreGood, AreItemsOf}
use Rattle.cube_core.specs.declared.change.Item.{Item}
use Rattle.cube_ledger.specs.Ledger.{LedgerView, LedgerStandsAt, new_account}
use Rattle.cube_ledger.specs.Taking.{LedgerStandsFrom}
use Rattle.cube_build.specs.Shares.{AreNewLedgers}
use Rattle.cube_live.specs.Live.{last_number}

-- an arrival list that has of each source with a feed the items of its feed, and of the others nothing
pub record StartsOver (feeds : List (List Item)) (start : Arrivals) : Type 0 where
  pub fed : of_sources (length feeds) start ≡ feeds
  pub others : (source : ℕ) → length feeds < source → of_source start source ≡ []

-- this stands over the feeds of these sources: every feed is good,
-- and it stands at an arrival list that has of each source with a feed the items of its feed, and of the others nothing
pub record OpensOver (s : Layout) (sources : SourceBytes) (Stands : Arrivals → Type 0) : Type 0 where
  pub feeds : List (List Item)
  pub good : AreGood s sources
  pub items : AllZip (AreItemsOf s) sources feeds
  pub start : Arrivals
  pub starts : StartsOver feeds start
  pub stands : Stands start

-- what a contract sees of an opening:
-- the ledger of its sources, and the number of the last record of each that was taken
pub record OpeningView : Type 0 where
  pub ledger : LedgerView
  pub numbers : List ℕ

-- how many sources an opening has
abbrev pub opening_sources : OpeningView → ℕ
opening_sources opening = length opening.ledger.accounts

-- the ledgers of openings
abbrev pub opening_ledgers : List OpeningView → List LedgerView
opening_ledgers openings = map (λ opening. opening.ledger) openings

-- the number of the last item that an arrival list has of each of so many sources, 0 where it has none
abbrev pub last_numbers : ℕ → Arrivals → List ℕ
last_numbers sources arrivals = map last_number (of_sources sources arrivals)

-- what is true of every opening:
-- it has a number for each source, and no source has a record past those that the schema takes
pub record IsOpening (ledger : LedgerView) (most : ℕ) (numbers : List ℕ) : Type 0 where
  pub most_is : most ≡ ledger.schema.max_records
  pub numbered : length numbers ≡ length ledger.accounts
  pub at_most : (place : ℕ) → get_or numbers place 0 ≤ most

-- an opening stands at an arrival list: its ledger does, and its numbers are those of the list's last items
pub record OpeningStandsAt (opening : OpeningView) (arrivals : Arrivals) : Type 0 where
  pub ledger : LedgerStandsAt opening.ledger arrivals
  pub numbers : opening.numbers ≡ last_numbers (opening_sources opening) arrivals

-- an opening that began as another one stands at an arrival list, with the schema and as many sources as at first
pub record OpeningStandsFrom (first opening : OpeningView) (arrivals : Arrivals) : Type 0 where
  pub ledger : LedgerStandsFrom first.ledger opening.ledger arrivals
  pub numbers : opening.numbers ≡ last_numbers (opening_sources opening) arrivals

-- no record of any source of an opening was taken
abbrev pub IsUnnumbered : OpeningView → Type 0
IsUnnumbered opening = opening.numbers ≡ replicate (opening_sources opening) 0

-- the openings of 1 to 8 shares, which have taken nothing, with so many sources together
pub record AreNewOpenings (s : Layout) (sources : ℕ) (openings : List OpeningView) : Type 0 where
  pub shares : ℕ
  pub within : (1 ≤ shares) × (shares ≤ 8)
  pub ledgers : AreNewLedgers s sources shares (opening_ledgers openings)
  pub numbers : All IsUnnumbered openings

-- an opening has the sources of another after its own
pub record IsJoinedOpening (first second whole : OpeningView) : Type 0 where
  pub schema : whole.ledger.schema ≡ first.ledger.schema
  pub accounts : whole.ledger.accounts ≡ first.ledger.accounts ++ second.ledger.accounts
  pub numbers : whole.numbers ≡ first.numbers ++ second.numbers

-- an opening of 64 sources has those of all of these, in their order, and after them such of which nothing was taken
pub record IsFilledUp (s : Layout) (openings : List OpeningView) (whole : OpeningView) : Type 0 where
  pub others : ℕ
  pub sources : opening_sources whole ≡ 64
  pub schema : whole.ledger.schema ≡ s
  pub accounts : whole.ledger.accounts
      ≡ flat_map (λ ledger. ledger.accounts) (opening_ledgers openings) ++ replicate others new_account
  pub numbers : whole.numbers ≡ flat_map (λ opening. opening.numbers) openings ++ replicate others 0
