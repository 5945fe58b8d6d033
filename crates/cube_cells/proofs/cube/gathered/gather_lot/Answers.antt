use Rattle.std.proofs.Common.{map}
use Rattle.std.proofs.lemmas.Result.{on_ok_weaker}
use Rattle.cube_cells.proofs.Filling.GatheredLaws.{GathersMore-OnlyAddsTexts, GathersMore-SameCells}
use Rattle.cube_cells.proofs.cube.gathered.gather_lot.Goals as goal

pub count_all-requires-clause-fit : goal.count_all-requires-clause-fit
count_all-requires-clause-fit g c =
    rw (c.make_room.ensures.same.same.schema, c.in_ok-code_all.ensures.same.same.schema) c.requires

pub count_all-requires-clause-codes : goal.count_all-requires-clause-codes
count_all-requires-clause-codes g c =
    rw (c.make_room.ensures.texts, c.deref-2.ensures.value) c.in_ok-code_all.ensures.codes

pub returns : goal.returns
returns g c = on_ok_weaker c.count_all.result
    (λ more. GathersMore-OnlyAddsTexts (map (λ r. r.now) c.args.facts.now) c.args.cube.now _ _
    c.in_ok-code_all.ensures.same (GathersMore-SameCells (map (λ r. r.now) c.args.facts.now) _ _ _
    c.make_room.ensures.same more)) c.count_all.ensures
