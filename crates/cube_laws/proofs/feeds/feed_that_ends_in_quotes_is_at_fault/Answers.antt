use Rattle.std.proofs.Common.{refl}
use Rattle.cube_laws.proofs.FeedLaws.{feed_of-in_order, feed_of-quotes}
use Rattle.cube_laws.proofs.feeds.feed_that_ends_in_quotes_is_at_fault.Goals as goal

pub returns : goal.returns
returns c = record { items = λ s bytes. refl; fault = feed_of-quotes; in_order = feed_of-in_order }
