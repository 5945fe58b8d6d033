use Rattle.std.proofs.Common.{◌++◌, ◌∷◌, [], List, ap, ◌∙◌}
use Rattle.cube_rings.specs.declared.parcel.Parcel.{Parcel}
use Rattle.cube_rings.specs.declared.parcel.Parcel.TheVariants.{End}
use Rattle.cube_rings.proofs.GatherLaws.{stands-nothing}
use Rattle.cube_rings.proofs.gathering.look.Goals as goal

pub returns-in-Some-clause-looks : goal.returns-in-Some-clause-looks
returns-in-Some-clause-looks g c = record {
  items = c.in-Some.item ∷ [];
  link = c.next_line.ensures.link;
  received = rw (c.count_one.ensures, c.requires.open) c.in-Some.ensures.received;
  stands_on = c.accept.ensures.stands;
}

pub returns-in-Nothing-clause-looks : goal.returns-in-Nothing-clause-looks
returns-in-Nothing-clause-looks g c = record {
  items = [];
  link = c.take_lot.ensures.link ∙ c.next_line.ensures.link;
  received = rw c.requires.open
      (c.in-Nothing.ensures.received ∙ ap (λ (xs : List Parcel). xs ++ []) c.in_default.ensures.none);
  stands_on = λ first arrivals at.
      stands-nothing (g.B.TakesItems.stands first) c.args.builder.now c.args.wanting.now arrivals at;
}

pub returns-in-Lines-clause-looks : goal.returns-in-Lines-clause-looks
returns-in-Lines-clause-looks g c = record {
  items = [];
  link = c.take_lot.ensures.link ∙ c.next_line.ensures.link;
  received = rw c.requires.open
      (c.in-Lines.ensures.received ∙ ap (λ (xs : List Parcel). xs ++ []) c.in_default.ensures.none);
  stands_on = λ first arrivals at.
      stands-nothing (g.B.TakesItems.stands first) c.args.builder.now c.args.wanting.now arrivals at;
}

pub returns-in-End-clause-looks : goal.returns-in-End-clause-looks
returns-in-End-clause-looks g c = record {
  items = [];
  link = c.take_lot.ensures.link ∙ c.next_line.ensures.link;
  received = c.in-End.ensures.received ∙ ap (λ (xs : List Parcel). xs ++ End ∷ []) c.in_default.ensures.none;
  stands_on = λ first arrivals at.
      stands-nothing (g.B.TakesItems.stands first) c.args.builder.now c.args.wanting.now arrivals at;
}
