-- Shares of the sources: builders of which each takes the feeds of sources of its own,
-- the first of the first sources, the next of those that follow, and so on (this project's choice).
use Rattle.std.specs.Prelude.{◌≡◌, ℕ, List, [], ◌∷◌, ◌++◌}
use Rattle.std.specs.Global.{Vec}
use Rattle.std.specs.List.{sum_by}
use Rattle.cube_core.specs.Arrival.{Arrivals, of_sources}
use Rattle.cube_core.specs.declared.change.Item.{Item}
use Rattle.cube_rings.specs.Link.{Sending}
use Rattle.cube_rings.specs.Wholes.{IsWholeOf}
use Rattle.cube_rings.specs.Wiring.{AreLinked}
use Rattle.cube_rings.specs.declared.parcel.Parcel.{Parcel}
use Rattle.cube_rings.specs.declared.gatherer.Gatherer.{Gatherer}

-- builders stand at feeds in shares:
-- the first stands at an arrival list that has of each of its sources one of the first feeds, in their order,
-- and the others stand so at the feeds that follow; no feed is left
abbrev pub StandAtShares : {B : Type 0} → (B → ℕ) → (B → B → Arrivals → Type 0) → List B → List B → List (List Item)
    → Type 0
StandAtShares all stands [] [] feeds = feeds ≡ []
StandAtShares all stands [] (new ∷ news) feeds = ⊥
StandAtShares all stands (old ∷ olds) [] feeds = ⊥
StandAtShares all stands (old ∷ olds) (new ∷ news) feeds =
    (arrivals : Arrivals) × (rest : List (List Item)) × (feeds ≡ of_sources (all old) arrivals ++ rest)
    × stands old new arrivals × StandAtShares all stands olds news rest

-- builders stand at an arrival list in shares: they do at the feeds that it has of their sources, numbered through
abbrev pub StandInShares : {B : Type 0} → (B → ℕ) → (B → B → Arrivals → Type 0) → Vec B → Vec B → Arrivals → Type 0
StandInShares all stands olds news arrivals =
    StandAtShares all stands olds.items news.items (of_sources (sum_by all olds.items) arrivals)

-- one builder alone, what these are together
pub record AreWholeOf {B : Type 0} (gatherers : List (Gatherer B)) (wholes : List (Gatherer (Vec B))) : Type 0 where
  pub whole : Gatherer (Vec B)
  pub one : wholes ≡ whole ∷ []
  pub is : IsWholeOf gatherers whole

-- each source is linked to the builder of its share, and nothing was sent or received:
-- the builders are together what has a link from each source
pub record AreLinkedInShares {B : Type 0} (outlets : List (List (Sending Parcel))) (builders : Vec B)
    (gatherers : List (Gatherer B)) : Type 0 where
  pub whole : Gatherer (Vec B)
  pub builder : whole.builder ≡ builders
  pub linked : AreLinked outlets (whole ∷ [])
  pub cut : IsWholeOf gatherers whole
