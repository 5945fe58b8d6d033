use Rattle.cube_laws.proofs.BoundLaws.{feed_of-unbounded}
use Rattle.cube_laws.proofs.FeedLaws.{feed_of-long}
use Rattle.cube_laws.proofs.feeds.bound_that_no_record_exceeds_changes_nothing.Goals as goal

pub returns : goal.returns
returns c = record { short = feed_of-unbounded; long = feed_of-long }
