use Rattle.std.proofs.Common.{◌≡◌, ℕ, map, length, sym, subst, ◌∙◌, vec_len}
use Rattle.std.proofs.lemmas.List.{length-map}
use Rattle.cube_build.specs.Drafts.{AreNewDrafts}
use Rattle.cube_build.proofs.DraftLaws.{new-drafts}
use Rattle.cube_build.proofs.ShareLaws.{if_ok-both}
use Rattle.cube_build.proofs.building.feed_parts.Given.{Over}
use Rattle.cube_build.proofs.building.feed_parts.Goals.{In-Ok}
use Rattle.cube_build.proofs.building.feed_parts.Goals as goal

-- the drafts are new, of the readers' sources
new : (g : Over) (c : In-Ok g) → AreNewDrafts c.args.schema.now
    (vec_len c.args.readers) c.args.settings.now.builders c.args.settings.now.builders c.in-Ok.drafts.items
new g c =
    subst (λ (n : ℕ). AreNewDrafts c.args.schema.now (vec_len c.args.readers) n n c.in-Ok.drafts.items)
    c.builders-parts.ensures.value
    (subst (λ (n : ℕ). AreNewDrafts c.args.schema.now n c.builders-parts.result c.builders-parts.result
    c.in-Ok.drafts.items) c.len.ensures c.in-Ok.ensures)

pub feed_all-requires-clause-new : goal.feed_all-requires-clause-new
feed_all-requires-clause-new g c κs within =
    new-drafts c.args.schema.now (vec_len c.args.readers) c.args.settings.now.builders c.in-Ok.drafts.items
    (new g (goal.at.feed_all-requires-clause-new g c).In-Ok)

pub returns-clause-taken : goal.returns-clause-taken
returns-clause-taken g c =
    let count : vec_len c.args.readers ≡ length (map g.R.Read.remaining c.args.readers.items) =
    c.args.readers.ok.0 ∙ sym (length-map c.args.readers.items g.R.Read.remaining) in
    if_ok-both c.feed_all.result _ _ _
    (λ good gatherers taken. record {
      good = good;
      drafts = c.in-Ok.drafts.items;
      new = subst (λ (n : ℕ). AreNewDrafts c.args.schema.now n c.args.settings.now.builders c.args.settings.now.builders
          c.in-Ok.drafts.items) count (new g (goal.at.returns-clause-taken g c).In-Ok);
      taken = taken;
    }) c.feed_all.ensures.good c.feed_all.ensures.taken
