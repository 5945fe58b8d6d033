use Rattle.std.proofs.Common.{List, ◌++◌, ◌∷◌, [], ◌∙◌, ap, refl}
use Rattle.cube_rings.specs.declared.gatherer.Gatherer.{Gatherer}
use Rattle.cube_build.specs.Drafts.{DraftView}
use Rattle.cube_build.proofs.shares.drafted.Goals as goal

pub returns : goal.returns
returns g c =
    let gatherer : Gatherer DraftView = record {
      builder = c.in_ok-builder.builder;
      place = c.args.whole.place;
      inlets = c.args.whole.inlets;
      wanting = c.args.whole.wanting;
    } in
    record {
      gatherer = gatherer;
      one = c.in_ok-push.ensures.items
          ∙ ap (λ (gs : List (Gatherer DraftView)). gs ++ gatherer ∷ []) c.in_ok-gatherers.ensures.items;
      draft = c.in_ok-builder.ensures;
      inlets = refl;
    }
