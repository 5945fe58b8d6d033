use Rattle.cube_store_commands.proofs.SessionFeedLaws.{session_is_a_feed}
use Rattle.cube_store_commands.proofs.laws.session_is_a_longer_feed.Goals as goal

pub returns : goal.returns
returns c = session_is_a_feed
