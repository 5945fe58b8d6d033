-- Where builders stand while they take the items of feeds in (this project's choice).
use Rattle.std.specs.Prelude.{◌≡◌, length}
use Rattle.cube_core.specs.Arrival.{Arrivals}
use Rattle.cube_cells.specs.Cube.{SameSets}
use Rattle.cube_build.specs.Builder.{BuilderView, StandsAt}

-- a builder stands at an arrival list, with as many accounts as at first, over the same sets of the same schema
pub record BuilderStandsFrom (first builder : BuilderView) (arrivals : Arrivals) : Type 0 where
  pub same : SameSets first.cube builder.cube
  pub all : length builder.ledger.accounts ≡ length first.ledger.accounts
  pub stands_at : StandsAt builder arrivals
