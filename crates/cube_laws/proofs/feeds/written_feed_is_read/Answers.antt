use Rattle.cube_laws.proofs.FeedLaws.{change_of-record_for, items_of-record_for, items_of-spelled}
use Rattle.cube_laws.proofs.feeds.written_feed_is_read.Goals as goal

pub returns : goal.returns
returns c = record { change = change_of-record_for; arranged = items_of-spelled; feed = items_of-record_for }
