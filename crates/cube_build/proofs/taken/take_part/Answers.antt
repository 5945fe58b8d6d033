use Rattle.std.proofs.Common.{ℕ, arith, map, subst}
use Rattle.cube_build.specs.Shares.{TakenInParts}
use Rattle.cube_build.proofs.TakenLaws.{gathered-one, taken-kept}
use Rattle.cube_build.proofs.taken.take_part.Given.{Over}
use Rattle.cube_build.proofs.taken.take_part.Goals.{In_ok-gatherers}
use Rattle.cube_build.proofs.taken.take_part.Goals as goal

-- one draft has taken the feeds
taken : (g : Over) (c : In_ok-gatherers g) → TakenInParts c.args.schema.now
    (map g.R.Read.remaining c.args.readers.items) 1 c.in_ok-gatherers.gatherers.items
taken g c = subst (λ (n : ℕ). TakenInParts c.args.schema.now (map g.R.Read.remaining c.args.readers.items) n
    c.in_ok-gatherers.gatherers.items) c.requires.one c.in_ok-gatherers.ensures.taken

pub swap_remove-gatherer-requires : goal.swap_remove-gatherer-requires
swap_remove-gatherer-requires g c =
    let some = gathered-one c.args.schema.now (map g.R.Read.remaining c.args.readers.items)
    c.in_ok-gatherers.gatherers.items (taken g (goal.at.swap_remove-gatherer-requires g c).In_ok-gatherers) in
    omega (arith, some, c.in_ok-gatherers.gatherers.ok.0)

pub returns-in-Ok-clause-ok : goal.returns-in-Ok-clause-ok
returns-in-Ok-clause-ok g c =
    taken-kept c.args.schema.now c.args.conditions.now (map g.R.Read.remaining c.args.readers.items)
    c.in_ok-gatherers.gatherers.items c.swap_remove-gatherer.result c.in-Ok.part
    (taken g (goal.at.returns-in-Ok-clause-ok g c).In_ok-gatherers) c.swap_remove-gatherer.ensures.value
    c.in-Ok.ensures.counts c.in-Ok.ensures.inlets
