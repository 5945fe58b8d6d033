use Rattle.cube_feed.proofs.TextLaws.{left_by-text_of}
use Rattle.cube_feed.proofs.feed_text.FeedText.new.Goals as goal

pub returns : goal.returns
returns g c =
    rw (
      c.new.ensures,
      c.new-bytes.ensures,
      c.bounds_of.ensures,
      c.end_mark.ensures,
      c.delimiter.ensures,
      c.is_marked.ensures,
    )
    (left_by-text_of c.args.schema.now (g.R.Read.remaining c.args.reader) c.reads_by_name-is_by_name.result
    c.reads_by_name-is_by_name.ensures.schema c.reads_by_name-is_by_name.ensures.value)
