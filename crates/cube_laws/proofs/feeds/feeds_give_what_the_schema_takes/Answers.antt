use Rattle.cube_laws.proofs.FeedLaws.{items_of-IsTaken}
use Rattle.cube_laws.proofs.feeds.feeds_give_what_the_schema_takes.Goals as goal

pub returns : goal.returns
returns c = items_of-IsTaken
