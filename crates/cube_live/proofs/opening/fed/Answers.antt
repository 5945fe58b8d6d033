use Rattle.std.proofs.Common.{◌≡◌, ◌∙◌, ℕ, arith, length, map, rules, subst, sym, vec_len}
use Rattle.std.proofs.lemmas.List.{length-map}
use Rattle.cube_live.specs.Opening.{AreNewOpenings, OpeningStandsAt}
use Rattle.cube_live.proofs.OpeningLaws.{HaveTakenFeeds, OpeningStandsAt-new, OpensOver-filled, OpensOver-none}
use Rattle.cube_live.proofs.OpeningLaws.{stands-new, taken-feeds}
use Rattle.cube_live.proofs.opening.fed.Given.{Over}
use Rattle.cube_live.proofs.opening.fed.Goals.{In-Ok-new_openings, After-swap_remove-openings}
use Rattle.cube_live.proofs.opening.fed.Goals as goal

pub returns-then-is_empty-clause-ok : goal.returns-then-is_empty-clause-ok
returns-then-is_empty-clause-ok g c =
    let told = map g.R.Read.remaining c.args.readers.items in
    let none : vec_len c.args.readers ≡ 0 = search rules in
    let count : vec_len c.args.readers ≡ length told =
    c.args.readers.ok.0 ∙ sym (length-map c.args.readers.items g.R.Read.remaining) in
    OpensOver-none c.args.schema.now told (OpeningStandsAt c.in-Ok.opening) (sym count ∙ none)
    (OpeningStandsAt-new c.in-Ok.opening 64 c.in-Ok.ensures.accounts c.in-Ok.ensures.numbers)

-- the openings are new, of the readers' sources
new : (g : Over) (c : In-Ok-new_openings g) → AreNewOpenings c.args.schema.now
    (length (map g.R.Read.remaining c.args.readers.items)) c.in-Ok-new_openings.openings.items
new g c =
    subst (λ (n : ℕ). AreNewOpenings c.args.schema.now n c.in-Ok-new_openings.openings.items)
    (c.len-sources.ensures ∙ c.args.readers.ok.0 ∙ sym (length-map c.args.readers.items g.R.Read.remaining))
    c.in-Ok-new_openings.ensures

pub feed_shares-requires-clause-new : goal.feed_shares-requires-clause-new
feed_shares-requires-clause-new g c κs within =
    stands-new c.args.schema.now (length (map g.R.Read.remaining c.args.readers.items))
    c.in-Ok-new_openings.openings.items
    (new g (goal.at.feed_shares-requires-clause-new g c).In-Ok-new_openings)

-- they have taken the feeds in shares
taken : (g : Over) (c : After-swap_remove-openings g) → HaveTakenFeeds c.args.schema.now
    (map g.R.Read.remaining c.args.readers.items) c.swap_remove-openings.result.builder.items
taken g c =
    taken-feeds c.args.schema.now (map g.R.Read.remaining c.args.readers.items) c.in-Ok-new_openings.openings
    c.in_ok-wholes.wholes.items c.swap_remove-openings.result
    (new g (goal.at.After-swap_remove-openings g c).In-Ok-new_openings) c.in_ok-wholes.ensures.taken
    c.swap_remove-openings.ensures.value

pub put_together-requires-clause-schema : goal.put_together-requires-clause-schema
put_together-requires-clause-schema g c =
    (taken g (goal.at.put_together-requires-clause-schema g c).After-swap_remove-openings).schema

pub put_together-requires-clause-most : goal.put_together-requires-clause-most
put_together-requires-clause-most g c = omega (
  arith,
  (taken g (goal.at.put_together-requires-clause-most g c).After-swap_remove-openings).all,
  length-map c.args.readers.items g.R.Read.remaining,
  c.args.readers.ok.0,
  c.requires,
)

pub returns-in-Ok-put_together-clause-ok : goal.returns-in-Ok-put_together-clause-ok
returns-in-Ok-put_together-clause-ok g c =
    OpensOver-filled c.args.schema.now (map g.R.Read.remaining c.args.readers.items)
    c.swap_remove-openings.result.builder.items c.in-Ok-put_together.opening c.in_ok-wholes.ensures.good
    (taken g (goal.at.returns-in-Ok-put_together-clause-ok g c).After-swap_remove-openings)
    c.in-Ok-put_together.ensures
