use Rattle.std.proofs.Common.{arith, ◌≡◌, ap, length}
use Rattle.std.proofs.lemmas.List.{length-map}
use Rattle.cube_feed.specs.Feed.{rest_of_feed}
use Rattle.cube_rings.specs.declared.roster.Feeder.{Feeder}
use Rattle.cube_rings.specs.declared.gatherer.Gatherer.{Gatherer}
use Rattle.cube_rings.proofs.setup.set_up.Goals as goal

pub returns-clause-count : goal.returns-clause-count
returns-clause-count g c =
    let f = λ (gatherer : Gatherer g.row.B.Denot). gatherer.builder in
    omega (
      arith,
      ap length c.in_ok-gatherers.ensures.builders,
      length-map c.in_ok-gatherers.gatherers.items f,
      c.in_ok-gatherers.gatherers.ok.0,
      c.args.builders.ok.0,
    )

pub returns-clause-start : goal.returns-clause-start
returns-clause-start g c =
    let f = λ (gatherer : Gatherer g.row.B.Denot). gatherer.builder in
    let h = λ (feeder : Feeder g.row.R.Denot). feeder.feed.to_come in
    let count : c.in_ok-gatherers.gatherers.len ≡ c.args.builders.len =
    omega (
      arith,
      ap length c.in_ok-gatherers.ensures.builders,
      length-map c.in_ok-gatherers.gatherers.items f,
      c.in_ok-gatherers.gatherers.ok.0,
      c.args.builders.ok.0,
    ) in
    let feeds : c.in_ok-gatherers.feeders.len ≡ c.args.readers.len =
    omega (
      arith,
      ap length c.in_ok-gatherers.ensures.feeds,
      length-map c.in_ok-gatherers.feeders.items h,
      length-map c.args.readers.items (λ reader. rest_of_feed c.args.schema.now (g.R.Read.remaining reader)),
      c.in_ok-gatherers.feeders.ok.0,
      c.args.readers.ok.0,
    ) in
    let sources = c.len-sources.ensures in
    let builders = c.len-count.ensures in
    let most = c.requires.readers in
    let few = c.requires.builders in
    let start = c.in_ok-roster.ensures in
    record {
      one = omega (arith, count, few);
      few = omega (arith, count, few);
      none = start.none;
      room = omega (arith, count, start.room, builders);
      for_feeders = record {
        most = omega (arith, feeds, most);
        none = start.for_feeders.none;
        room = omega (arith, feeds, start.for_feeders.room, sources);
        posts = omega (arith, feeds, count, start.for_feeders.posts, sources, builders);
      };
    }
