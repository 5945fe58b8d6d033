-- Several sources:
-- what their feeds leave together, and the printed cube of that (an id belongs to its source: this project's choice).
use Rattle.std.specs.Prelude.{◌≡◌, ℕ, List, map, flat_map}
use Rattle.std.specs.List.{AllZip}
use Rattle.cube_core.specs.Layout.{Layout}
use Rattle.cube_core.specs.FeedRecords.{feed_of}
use Rattle.cube_core.specs.Surviving.{AreSurviving}
use Rattle.cube_core.specs.Printed.{IsPrinted}
use Rattle.cube_core.specs.declared.fact.Fact.{Fact}
use Rattle.cube_core.specs.declared.change.Item.{Item}

-- these facts survive several feeds: those that survive the items of each, joined in the order of the feeds
pub record SurviveTogether (s : Layout) (feeds : List (List Item)) (facts : List Fact) : Type 0 where
  pub parts : List (List Fact)
  pub of_each : AllZip (AreSurviving s) feeds parts
  pub joined : facts ≡ flat_map (λ part. part) parts

-- the items of the feed of each of these sources' bytes
abbrev pub items_of_sources : Layout → List (List ℕ) → List (List Item)
items_of_sources s sources = map (λ bytes. (feed_of s bytes).items) sources

-- this text is the printed cube of the facts that survive the feeds of these sources' bytes
pub record IsPrintedOf (s : Layout) (sources : List (List ℕ)) (text : List ℕ) : Type 0 where
  pub facts : List Fact
  pub survive : SurviveTogether s (items_of_sources s sources) facts
  pub printed : IsPrinted s facts text
