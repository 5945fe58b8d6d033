-- What taking the feeds of several sources into a builder promises (this project's choice).
use Rattle.std.specs.Prelude.{◌≡◌}
use Rattle.cube_core.specs.Layout.{Layout}
use Rattle.cube_core.specs.Run.{SourceBytes}
use Rattle.cube_build.specs.Builder.{BuilderView, HasFacts}
use Rattle.cube_ledger.specs.Build.{Builds}
use Rattle.cube_ledger.specs.Ledger.{all_facts}

-- a builder has taken the feeds of these sources: its ledger has, and its cube has the facts of the books,
-- over the schema's grouping sets
pub record BuildsWhole (s : Layout) (sources : SourceBytes) (builder : BuilderView) : Type 0 where
  pub ledger : Builds s sources builder.ledger
  pub sets : builder.cube.sets ≡ s.grouping_sets
  pub cube : HasFacts builder.ledger.schema (all_facts builder.ledger.accounts) builder.cube
