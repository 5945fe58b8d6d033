use Rattle.csv.specs.Records.{fields_of}
use Rattle.cube_feed.specs.FeedText.{with_ahead}
use Rattle.cube_feed.specs.Reading.{RecordsView}
use Rattle.cube_feed.proofs.TextLaws.{TakesNext-more}
use Rattle.cube_feed.proofs.feed_text.advance_to_mark.Goals as goal

pub returns-then-rows-clause-takes : goal.returns-then-rows-clause-takes
returns-then-rows-clause-takes g c =
    let rows = c.args.rows.now in
    let taken : RecordsView = record {
      left = c.read_first.new.rows.source;
      fields = fields_of c.read_first.new.rows.ahead;
    } in
    let ahead : RecordsView = record { left = c.advance.new.self; fields = fields_of c.advance.new.row } in
    rw (c.swap.ensures.x_after, c.if-rows.true)
    (TakesNext-more (with_ahead rows.is_ahead (fields_of rows.ahead) rows.source) taken ahead
    (rw c.if-not-branch.false at c.in_ok-read_first.ensures.takes)
    (rw c.if-rows.true at c.in_ok-rows.ensures.takes))
