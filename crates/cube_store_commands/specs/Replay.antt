-- What a session is after stored changes, which are taken in their order before its first record.
use Rattle.std.specs.Prelude.{◌≡◌, ◌≤◌, ◌-◌, ◌⊎◌, ℕ, List, [], ◌∷◌, ◌++◌, drop, get_or, IsTrue, Option, None, Some}
use Rattle.cube_core.specs.Arrival.{Arrivals, of_source}
use Rattle.cube_core.specs.FeedRecords.{is_read}
use Rattle.cube_core.specs.Layout.{Layout}
use Rattle.cube_store.specs.Rows.{Entry}
use Rattle.cube_live.specs.Live.{LiveView, LiveStandsAt, last_number}
use Rattle.cube_live.specs.Session.{arrivals_changed}
use Rattle.cube_store_commands.specs.Records.{fields_in}

-- an arrival list after a stored change:
-- what a session makes of a change of its source with these fields (this project's choice)
abbrev pub arrivals_by_stored : Layout → Arrivals → Entry → Arrivals
arrivals_by_stored s arrivals change = arrivals_changed s arrivals change.0 (drop 1 (fields_in change.1))

-- an arrival list after stored changes
abbrev pub arrivals_from : Layout → Arrivals → List Entry → Arrivals
arrivals_from s arrivals [] = arrivals
arrivals_from s arrivals (change ∷ changes) = arrivals_from s (arrivals_by_stored s arrivals change) changes

-- a cube that is kept right took a stored change (this project's choice)
pub record TakesStored (old : LiveView) (change : Entry) (new : LiveView) : Type 0 where
  pub schema : new.schema ≡ old.schema
  pub stands : (arrivals : Arrivals) → LiveStandsAt old arrivals
      → LiveStandsAt new (arrivals_by_stored old.schema arrivals change)

-- what takes stored changes:
-- a cube that is kept right, and the source, if there was one, of a change that followed the last that the schema takes
pub record ReplayView : Type 0 where
  pub live : LiveView
  pub over : Option ℕ

-- a cube has taken the last record that the schema takes of the source of this stored change, which is of its shard
pub record IsFull (live : LiveView) (change : Entry) : Type 0 where
  pub first : 1 ≤ change.0
  pub last : change.0 ≤ 64
  pub read : IsTrue (is_read live.schema (drop 1 (fields_in change.1)))
  pub full : get_or live.numbers (change.0 - 1) 0 ≡ live.schema.max_records

-- a stored change was taken, unless it or one before it followed the last that the schema takes (this project's choice)
abbrev pub TakesBehind : Option ℕ → LiveView → Entry → ReplayView → Type 0
TakesBehind (Some source) old change new = new ≡ record { live = old; over = Some source }
TakesBehind None old change new =
    ((new.over ≡ None) × TakesStored old change new.live) ⊎ ((new.over ≡ Some change.0) × IsFull old change)

-- the same of what takes it
abbrev pub TakesWithin : ReplayView → Entry → ReplayView → Type 0
TakesWithin old change new = TakesBehind old.over old.live change new

-- the stored changes have more of this source than the schema takes:
-- one of its shard follows as many records of the source, of the feed and stored, as the schema takes
pub record PassesLast (s : Layout) (start : Arrivals) (stored : List Entry) (source : ℕ) : Type 0 where
  pub before : List Entry
  pub change : Entry
  pub behind : List Entry
  pub parts : stored ≡ before ++ change ∷ behind
  pub of_it : change.0 ≡ source
  pub read : IsTrue (is_read s (drop 1 (fields_in change.1)))
  pub full : last_number (of_source (arrivals_from s start before) source) ≡ s.max_records
