-- Ledgers with cubes to be filled, and the builders that are made of them (this project's choice).
use Rattle.std.specs.Prelude.{◌≡◌, ◌<◌, ◌∷◌, ℕ, List, [], flat_map, length, slice_index_or}
use Rattle.std.specs.Global.{Vec}
use Rattle.cube_core.specs.Arrival.{Arrivals}
use Rattle.cube_core.specs.Layout.{Layout, cube_schema}
use Rattle.cube_cells.specs.Cube.{Lattice, SameSets}
use Rattle.cube_build.specs.Builder.{BuilderView, CountsFacts, HasFacts}
use Rattle.cube_ledger.specs.Ledger.{LedgerView, LedgerStandsAt, all_facts}
use Rattle.cube_build.specs.Parted.{IsPartOver}
use Rattle.cube_rings.specs.declared.gatherer.Gatherer.{Gatherer}
use Rattle.cube_build.specs.declared.making.MadePart.{MadePart}

-- what a contract sees of a draft: its ledger, and the cube that waits
pub record DraftView : Type 0 where
  pub ledger : LedgerView
  pub cube : Lattice

-- what is true of every draft: its cube is under the schema of the ledger's cube, and has no fact
pub record IsDraft (ledger : LedgerView) (cube : Lattice) : Type 0 where
  pub schema : cube.schema ≡ cube_schema ledger.schema
  pub empty : CountsFacts [] cube

-- the ledger of a draft stands at an arrival list,
-- with the schema and as many accounts as at first, and the cube is as it was
pub record StandsFrom (first draft : DraftView) (arrivals : Arrivals) : Type 0 where
  pub schema : draft.ledger.schema ≡ first.ledger.schema
  pub all : length draft.ledger.accounts ≡ length first.ledger.accounts
  pub cube : draft.cube ≡ first.cube
  pub stands_at : LedgerStandsAt draft.ledger arrivals

-- the draft of a part of so many, with a ledger of so many sources that has taken nothing
pub record IsNewDraft (s : Layout) (sources parts part : ℕ) (draft : DraftView) : Type 0 where
  pub schema : draft.ledger.schema ≡ s
  pub all : length draft.ledger.accounts ≡ sources
  pub over : IsPartOver s parts part draft.cube
  pub stands_at : LedgerStandsAt draft.ledger []

-- these are the drafts of the first so many parts
pub record AreNewDrafts (s : Layout) (sources parts count : ℕ) (drafts : List DraftView) : Type 0 where
  pub counted : length drafts ≡ count
  pub each : (part : ℕ) (d : DraftView) → part < count → IsNewDraft s sources parts part (slice_index_or drafts part d)

-- the draft over all grouping sets of the ledgers of shares: its ledger has their accounts, in their order
pub record IsDraftOf (s : Layout) (ledgers : List LedgerView) (draft : DraftView) : Type 0 where
  pub schema : draft.ledger.schema ≡ s
  pub accounts : draft.ledger.accounts ≡ flat_map (λ ledger. ledger.accounts) ledgers
  pub over : IsPartOver s 1 0 draft.cube

-- one builder alone: the draft of the ledgers of shares, with the links of all sources
pub record IsDrafted (s : Layout) (whole : Gatherer (Vec LedgerView)) (gatherers : List (Gatherer DraftView))
    : Type 0 where
  pub gatherer : Gatherer DraftView
  pub one : gatherers ≡ gatherer ∷ []
  pub draft : IsDraftOf s whole.builder.items gatherer.builder
  pub inlets : gatherer.inlets ≡ whole.inlets

-- a builder is made of a draft: its cube, over the same sets, has the facts of the ledger's books
pub record IsMadeOf (draft : DraftView) (builder : BuilderView) : Type 0 where
  pub ledger : builder.ledger ≡ draft.ledger
  pub same : SameSets draft.cube builder.cube
  pub has : HasFacts draft.ledger.schema (all_facts draft.ledger.accounts) builder.cube

-- a part was made of what was fed to its draft:
-- its builder is made of the draft, and has the links by which the feeds came
pub record IsMadePart {N : Type 0} (gatherer : Gatherer DraftView) (part : MadePart N) : Type 0 where
  pub builder : IsMadeOf gatherer.builder part.builder
  pub inlets : part.inlets.items ≡ gatherer.inlets.items
