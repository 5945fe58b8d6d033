use Rattle.std.proofs.Common.{◌≡◌, ◌∙◌, ℕ, ap, arith, get_or, length, map, subst, sum_by, sym}
use Rattle.std.specs.Global.{Vec}
use Rattle.std.proofs.lemmas.List.{length-map}
use Rattle.cube_ledger.specs.Ledger.{LedgerView}
use Rattle.cube_build.specs.Shares.{AreNewLedgers}
use Rattle.cube_rings.specs.declared.gatherer.Gatherer.{Gatherer}
use Rattle.cube_build.proofs.ShareLaws.{HasTakenShares, AreOfSchema, sources_of, taken-shares, drafted-taken}
use Rattle.cube_build.proofs.shares.feed_in_shares.Given.{Over}
use Rattle.cube_build.proofs.shares.feed_in_shares.Goals.{In-Ok, In_ok-wholes, After-swap_remove}
use Rattle.cube_build.proofs.shares.feed_in_shares.Goals as goal

-- the ledgers are new, of the readers' sources
new : (g : Over) (c : In-Ok g) → AreNewLedgers c.args.schema.now
    (length (map g.R.Read.remaining c.args.readers.items)) c.shares_of-shares.result c.in-Ok.ledgers.items
new g c =
    subst (λ (n : ℕ). AreNewLedgers c.args.schema.now n c.shares_of-shares.result c.in-Ok.ledgers.items)
    (c.len-sources.ensures ∙ c.args.readers.ok.0 ∙ sym (length-map c.args.readers.items g.R.Read.remaining))
    c.in-Ok.ensures

-- they have taken the feeds in shares
taken : (g : Over) (c : In_ok-wholes g) → HasTakenShares c.args.schema.now
    (map g.R.Read.remaining c.args.readers.items) c.in-Ok.ledgers c.in_ok-wholes.wholes.items
taken g c =
    taken-shares c.args.schema.now (map g.R.Read.remaining c.args.readers.items) c.shares_of-shares.result
    c.in-Ok.ledgers c.in_ok-wholes.wholes.items (new g (goal.at.In_ok-wholes g c).In-Ok) c.in_ok-wholes.ensures.taken

-- the one that is drafted is that which they became
same : (g : Over) (c : After-swap_remove g)
    → c.swap_remove.result ≡ (taken g (goal.at.After-swap_remove g c).In_ok-wholes).whole
same g c =
    let all = taken g (goal.at.After-swap_remove g c).In_ok-wholes in
    c.swap_remove.ensures.value ∙ ap (λ wholes. get_or wholes 0 c.swap_remove.result) all.one

pub drafted-requires-clause-schema : goal.drafted-requires-clause-schema
drafted-requires-clause-schema g c =
    let at = goal.at.drafted-requires-clause-schema g c in
    subst (λ (w : Gatherer (Vec LedgerView)). AreOfSchema c.args.schema.now w.builder.items)
    (sym (same g at.After-swap_remove)) (taken g at.In_ok-wholes).together.schema

pub drafted-requires-clause-most : goal.drafted-requires-clause-most
drafted-requires-clause-most g c =
    let at = goal.at.drafted-requires-clause-most g c in
    omega (
      arith,
      ap (λ (w : Gatherer (Vec LedgerView)). sum_by sources_of w.builder.items) (same g at.After-swap_remove),
      (taken g at.In_ok-wholes).together.sources,
      (new g at.In-Ok).together,
      length-map c.args.readers.items g.R.Read.remaining,
      c.args.readers.ok.0,
      c.requires.readers,
    )

pub returns-in-Ok-drafted-clause-taken : goal.returns-in-Ok-drafted-clause-taken
returns-in-Ok-drafted-clause-taken g c =
    let at = goal.at.returns-in-Ok-drafted-clause-taken g c in
    drafted-taken c.args.schema.now (map g.R.Read.remaining c.args.readers.items) c.shares_of-shares.result
    c.in-Ok.ledgers c.in_ok-wholes.wholes.items c.swap_remove.result c.in-Ok-drafted.gatherers.items
    c.in_ok-wholes.ensures.good (new g at.In-Ok) (taken g at.In_ok-wholes) (same g at.After-swap_remove)
    c.in-Ok-drafted.ensures
