use Rattle.std.proofs.Common.{arith, ◌≡◌, ◌∷◌, ◌∙◌, [], ap, sym, length, map, sum_by, vec_len}
use Rattle.std.specs.Global.{Vec}
use Rattle.std.proofs.lemmas.List.{length-map}
use Rattle.cube_feed.specs.Feed.{rest_of_feed}
use Rattle.cube_rings.specs.Wiring.{AreLinked}
use Rattle.cube_rings.specs.Shares.{AreLinkedInShares}
use Rattle.cube_rings.specs.declared.gatherer.Gatherer.{Gatherer}
use Rattle.cube_rings.proofs.ShareLaws.{linked-whole, ready-shares}
use Rattle.cube_rings.proofs.setup.set_up_shares.Given.{Over}
use Rattle.cube_rings.proofs.setup.set_up_shares.Goals.{After-swap_remove, In_ok-gatherers}
use Rattle.cube_rings.proofs.setup.set_up_shares.Goals as goal

-- the one that all links go to
whole : (g : Over) (c : After-swap_remove g) → (c.swap_remove.result.builder ≡ c.args.builders)
    × AreLinked (map (λ f. f.outlets.items) c.in_ok-wholes.feeders.items) (c.swap_remove.result ∷ [])
whole g c =
    linked-whole (map (λ f. f.outlets.items) c.in_ok-wholes.feeders.items) c.in_ok-wholes.wholes.items c.args.builders
    c.swap_remove.result (c.in_ok-wholes.ensures.builders ∙ c.in_ok-one.ensures) c.swap_remove.ensures.value
    c.in_ok-wholes.ensures.linked

-- there are as many feeders as there are readers
as-many : (g : Over) (c : After-swap_remove g) → length c.in_ok-wholes.feeders.items ≡ vec_len c.args.readers
as-many g c =
    sym (length-map c.in_ok-wholes.feeders.items (λ f. f.feed.to_come))
    ∙ ap length c.in_ok-wholes.ensures.feeds
    ∙ length-map c.args.readers.items (λ reader. rest_of_feed c.args.schema.now (g.R.Read.remaining reader))
    ∙ sym c.args.readers.ok.0

-- and as many links
links : (g : Over) (c : After-swap_remove g) → vec_len c.swap_remove.result.inlets ≡ vec_len c.args.readers
links g c =
    c.swap_remove.result.inlets.ok.0 ∙ (whole g c).1.heights 0 c.swap_remove.result (omega arith)
    ∙ length-map c.in_ok-wholes.feeders.items (λ f. f.outlets.items) ∙ as-many g c

-- the shares are linked
linked : (g : Over) (c : In_ok-gatherers g)
    → AreLinkedInShares (map (λ f. f.outlets.items) c.in_ok-wholes.feeders.items) c.args.builders
    c.in_ok-gatherers.gatherers.items
linked g c =
    let is = whole g (goal.at.In_ok-gatherers g c).After-swap_remove in
    record { whole = c.swap_remove.result; builder = is.0; linked = is.1; cut = c.in_ok-gatherers.ensures.whole }

pub cut_up-requires-clause-sources : goal.cut_up-requires-clause-sources
cut_up-requires-clause-sources g c =
    let at = (goal.at.cut_up-requires-clause-sources g c).After-swap_remove in
    ap (λ (v : Vec g.row.B.Denot). sum_by g.B.TakesItems.sources v.items) (whole g at).0 ∙ c.requires.sources
    ∙ sym (links g at)

pub cut_up-requires-clause-most : goal.cut_up-requires-clause-most
cut_up-requires-clause-most g c =
    omega (arith, links g (goal.at.cut_up-requires-clause-most g c).After-swap_remove, c.requires.readers)

pub returns-clause-linked : goal.returns-clause-linked
returns-clause-linked g c = linked g (goal.at.returns-clause-linked g c).In_ok-gatherers

pub returns-clause-ready : goal.returns-clause-ready
returns-clause-ready g c =
    let at = goal.at.returns-clause-ready g c in
    ready-shares g.B.TakesItems.sources g.B.TakesItems.stands c.args.builders
    (map (λ f. f.outlets.items) c.in_ok-wholes.feeders.items) c.in_ok-gatherers.gatherers.items
    (linked g at.In_ok-gatherers)
    (omega (
      arith,
      length-map c.in_ok-wholes.feeders.items (λ f. f.outlets.items),
      as-many g at.After-swap_remove,
      c.requires.readers,
    )) c.requires.new c.in_ok-gatherers.ensures.sources

pub returns-clause-start : goal.returns-clause-start
returns-clause-start g c =
    let at = goal.at.returns-clause-start g c in
    let shares = c.in_ok-gatherers.gatherers in
    let count : shares.len ≡ c.args.builders.len =
    shares.ok.0 ∙ sym (length-map shares.items (λ (share : Gatherer g.row.B.Denot). share.builder))
    ∙ ap length c.in_ok-gatherers.ensures.whole.builders
    ∙ ap (λ (v : Vec g.row.B.Denot). length v.items) (whole g at.After-swap_remove).0
    ∙ sym c.args.builders.ok.0 in
    let feeds : c.in_ok-wholes.feeders.len ≡ c.args.readers.len =
    c.in_ok-wholes.feeders.ok.0 ∙ as-many g at.After-swap_remove in
    let sources = c.len-sources.ensures in
    let builders = c.len-count.ensures in
    let most = c.requires.readers in
    let few = c.requires.builders in
    let start = c.in_ok-roster.ensures in
    record {
      one = omega (arith, count, few);
      few = omega (arith, count, few);
      none = start.none;
      room = omega (arith, count, start.room, builders);
      for_feeders = record {
        most = omega (arith, feeds, most);
        none = start.for_feeders.none;
        room = omega (arith, feeds, start.for_feeders.room, sources);
        posts = omega (arith, feeds, count, start.for_feeders.posts, sources, builders);
      };
    }

pub link_up-requires-clause-builders : goal.link_up-requires-clause-builders
link_up-requires-clause-builders g c = omega (arith, ap length c.in_ok-one.ensures, c.in_ok-one.one.ok.0)

pub swap_remove-requires : goal.swap_remove-requires
swap_remove-requires g c =
    omega (
      arith,
      ap length (c.in_ok-wholes.ensures.builders ∙ c.in_ok-one.ensures),
      length-map c.in_ok-wholes.wholes.items (λ whole. whole.builder),
      c.in_ok-wholes.wholes.ok.0,
    )
