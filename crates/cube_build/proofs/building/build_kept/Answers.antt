use Rattle.std.proofs.Common.{◌≡◌, ◌≤◌, ◌++◌, ◌∙◌, ap, arith, drop, length, map, rules, take}
use Rattle.std.proofs.lemmas.List.{length-map}
use Rattle.cube_ledger.proofs.InterestLaws.{written-back}
use Rattle.cube_build.specs.Interest.{BuildsWhere, gathered_of_interest}
use Rattle.cube_build.proofs.InterestLaws.{builds-seen, builds-where, kept-are-parts, schema-where}
use Rattle.cube_build.proofs.building.build_kept.Given.{Over}
use Rattle.cube_build.proofs.building.build_kept.Goals.{In-Ok, In-Ok-complete, After-of}
use Rattle.cube_build.proofs.building.build_kept.Goals as goal

-- the settings have a builder
some : (g : Over) (c : In-Ok g) → 1 ≤ c.args.settings.now.builders
some g c = omega (arith, c.builders.ensures.bounds.0, c.builders.ensures.value)

-- the builders that were made have the facts of interest
built : (g : Over) (c : In-Ok-complete g)
    → BuildsWhere c.args.schema.now c.args.conditions.now (map g.R.Read.remaining c.args.readers.items)
    c.args.settings.now.builders
    (record {
      builders = c.complete.new.making.builders.items;
      inlets = map (λ links. links.inlets.items) c.complete.new.making.links.items;
    })
built g c =
    let at = goal.at.In-Ok-complete g c in
    let taken = c.in_ok-gatherers.ensures.taken in
    let old = c.in_ok-gatherers.gatherers in
    let new = c.keep_of_interest.new.gatherers in
    let keep = gathered_of_interest c.args.conditions.now in
    let kept : new ≡ map keep old.items = c.keep_of_interest.ensures ∙ ap (map keep) c.as_mut_slice.ensures.value in
    let long : length new ≡ length old.items = ap length kept ∙ length-map old.items keep in
    let whole : take old.len (new ++ drop (length new) old.items) ≡ new =
    written-back old.items new old.len (search rules) long in
    builds-where c.args.schema.now c.args.conditions.now (map g.R.Read.remaining c.args.readers.items)
    c.args.settings.now.builders taken.drafts old.items _ _ taken.good (some g at.In-Ok) taken.new taken.taken
    (whole ∙ kept) c.in-Ok-complete.ensures

pub of-requires : goal.of-requires
of-requires g c =
    let at = goal.at.of-requires g c in
    kept-are-parts c.args.schema.now c.args.conditions.now _ c.args.settings.now.builders _ (some g at.In-Ok)
    (built g at.In-Ok-complete)

-- and so have those that are given back
given : (g : Over) (c : After-of g) → BuildsWhere c.args.schema.now c.args.conditions.now
    (map g.R.Read.remaining c.args.readers.items) c.args.settings.now.builders c.of.result
given g c =
    builds-seen c.args.schema.now c.args.conditions.now _ c.args.settings.now.builders _ c.of.result
    c.of.ensures.builders c.of.ensures.inlets (built g (goal.at.After-of g c).In-Ok-complete)

pub returns-in-Ok-complete-clause-ok : goal.returns-in-Ok-complete-clause-ok
returns-in-Ok-complete-clause-ok g c = given g c

pub returns-in-Ok-complete-clause-schema : goal.returns-in-Ok-complete-clause-schema
returns-in-Ok-complete-clause-schema g c =
    schema-where c.args.schema.now c.args.conditions.now _ c.args.settings.now.builders c.of.result
    (some g (goal.at.After-of g c).In-Ok) (given g c)
