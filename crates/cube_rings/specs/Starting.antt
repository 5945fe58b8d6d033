-- What is known of builders and feeders before their threads start, and after they were joined.
use Rattle.std.specs.Prelude.{◌≡◌, ◌+◌, ◌≤◌, ℕ, List, [], ◌∷◌, ◌++◌, false, length, map, vec_len, vec_capacity}
use Rattle.std.specs.Prelude.{Option, Some, Result, Ok}
use Rattle.cube_core.specs.Arrival.{Arrivals, of_sources}
use Rattle.cube_rings.specs.Gathering.{AreFresh}
use Rattle.cube_rings.specs.Parcels.{parcels_of}
use Rattle.cube_rings.specs.declared.gatherer.Gatherer.{Gatherer}
use Rattle.cube_rings.specs.declared.roster.Roster.{Roster}

-- a builder that has taken nothing, with a link from each source, from which nothing was received
pub record IsReady {B : Type 0} (sources : B → ℕ) (stands : B → B → Arrivals → Type 0) (gatherer : Gatherer B)
    : Type 0 where
  pub inlets : vec_len gatherer.inlets ≡ sources gatherer.builder
  pub most : vec_len gatherer.inlets ≤ 64
  pub fresh : AreFresh gatherer.inlets.items
  pub stands_at : stands gatherer.builder gatherer.builder []

-- what a builder has gathered from its links:
-- each has given the lines of its source's arrivals and then its end, and the builder
-- stands at these arrivals where memory was never wanting
pub record HasGathered {B : Type 0} (stands : B → B → Arrivals → Type 0) (old new : Gatherer B) : Type 0 where
  pub arrivals : Arrivals
  pub links : map (λ inlet. inlet.link) new.inlets.items ≡ map (λ inlet. inlet.link) old.inlets.items
  pub received : map (λ inlet. inlet.received) new.inlets.items
      ≡ map parcels_of (of_sources (length old.inlets.items) arrivals)
  pub stands_at : new.wanting ≡ false → stands old.builder new.builder arrivals

-- no feeder was joined yet, and there are room for so many ends and a post for each of so many threads
pub record RosterHasRoom {B : Type 0} (feeders threads : ℕ) (roster : Roster B) : Type 0 where
  pub most : feeders ≤ 64
  pub none : vec_len roster.ends ≡ 0
  pub room : feeders ≤ vec_capacity roster.ends
  pub posts : threads ≤ vec_len roster.posts

-- so many builders and feeders may be started: none was joined yet, and there are room and posts for all
pub record MayStart {B : Type 0} (builders feeders : ℕ) (roster : Roster B) : Type 0 where
  pub one : 1 ≤ builders
  pub few : builders ≤ 8
  pub none : vec_len roster.gatherers ≡ 0
  pub room : builders ≤ vec_capacity roster.gatherers
  pub for_feeders : RosterHasRoom feeders (feeders + builders) roster

-- the last of these was started, as its thread promises, and the others were given back
pub record StartsLast {P : Type 0} (feeders rest : List P) (Promises : P → Type 0) : Type 0 where
  pub feeder : P
  pub split : feeders ≡ rest ++ feeder ∷ []
  pub promises : Promises feeder

-- what a joined thread gave back was kept behind what is kept of others, whose answer is that all came to their ends
pub record Keeps {A E : Type 0} (answer : Result (Unit {0}) E) (given : Option A) (old new : List A) : Type 0 where
  pub all : answer ≡ Ok tt
  pub one : A
  pub is : given ≡ Some one
  pub kept : new ≡ old ++ one ∷ []
