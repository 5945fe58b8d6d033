use Rattle.std.proofs.Common.{refl}
use Rattle.cube_laws.proofs.FeedLaws.{IsGoodFeed-some, found_columns-by_name, found_columns-header, items_of-at_most}
use Rattle.cube_laws.proofs.feeds.feed_has_a_header_and_so_many_records.Goals as goal

pub returns : goal.returns
returns c = record {
  none = λ s. refl;
  some = IsGoodFeed-some;
  in_order = found_columns-header;
  by_name = found_columns-by_name;
  at_most = items_of-at_most;
}
