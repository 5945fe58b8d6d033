-- What a counter takes of all feeds (this project's choice).
use Rattle.std.specs.Prelude.{List, length}
use Rattle.std.specs.List.{AllZip}
use Rattle.cube_core.specs.Layout.{Layout}
use Rattle.cube_core.specs.Run.{SourceBytes, AreGood, AreItemsOf}
use Rattle.cube_core.specs.declared.change.Item.{Item}
use Rattle.cube_core.specs.declared.condition.Condition.{Condition}
use Rattle.cube_rings.specs.FeedingAll.{TakesFeeds}
use Rattle.cube_rings.specs.declared.gatherer.Gatherer.{Gatherer}
use Rattle.cube_build.specs.Counting.{CounterStandsFrom, CounterView, IsNewCounter}

-- a counter has taken the feeds of all sources, and every feed is good
pub record CountsFeeds (s : Layout) (conditions : List Condition) (sources : SourceBytes)
    (gatherer : Gatherer CounterView) : Type 0 where
  pub good : AreGood s sources
  pub counter : CounterView
  pub new : IsNewCounter s (length sources) conditions counter
  pub feeds : List (List Item)
  pub items : AllZip (AreItemsOf s) sources feeds
  pub takes : TakesFeeds (CounterStandsFrom counter) feeds gatherer
