use Rattle.std.proofs.Common.{◌≡◌, ℕ, arith, map, rules, subst, sym}
use Rattle.cube_build.specs.Interest.{BuildsWhere}
use Rattle.cube_build.proofs.InterestLaws.{schema-where}
use Rattle.cube_build.proofs.TakenLaws.{builds-filled}
use Rattle.cube_build.proofs.building.build_where.Given.{Over}
use Rattle.cube_build.proofs.building.build_where.Goals.{In-Ok}
use Rattle.cube_build.proofs.building.build_where.Goals as goal

-- the builder that was filled has taken the feeds
built : (g : Over) (c : In-Ok g) → BuildsWhere c.args.schema.now c.args.conditions.now
    (map g.R.Read.remaining c.args.readers.items) 1 c.in-Ok.built
built g c =
    builds-filled c.args.schema.now c.args.conditions.now (map g.R.Read.remaining c.args.readers.items)
    c.in_ok-part.part c.in-Ok.built c.in_ok-part.ensures.ok c.in-Ok.ensures

pub filled-requires : goal.filled-requires
filled-requires g c = c.in_ok-part.ensures.ok.finest

pub returns-in-Ok-clause-ok : goal.returns-in-Ok-clause-ok
returns-in-Ok-clause-ok g c =
    let one : c.args.settings.now.builders ≡ 1 = search rules in
    subst (λ (n : ℕ). BuildsWhere c.args.schema.now c.args.conditions.now
    (map g.R.Read.remaining c.args.readers.items) n c.in-Ok.built) (sym one)
    (built g (goal.at.returns-in-Ok-clause-ok g c).In-Ok)

pub returns-in-Ok-clause-schema : goal.returns-in-Ok-clause-schema
returns-in-Ok-clause-schema g c =
    schema-where c.args.schema.now c.args.conditions.now (map g.R.Read.remaining c.args.readers.items) 1 c.in-Ok.built
    (omega arith) (built g (goal.at.returns-in-Ok-clause-schema g c).In-Ok)

pub returns-in-Err-clause-err : goal.returns-in-Err-clause-err
returns-in-Err-clause-err g c = c.in_ok-part.ensures.ok.takes.good
