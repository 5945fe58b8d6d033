use Rattle.std.proofs.Common.{◌≡◌, false, rules, true}
use Rattle.cube_core.specs.Conditions.{hold}
use Rattle.cube_cells.proofs.Cells.WalkLaws.{OnOk-both}
use Rattle.cube_build.proofs.CountingLaws.{gains-fact, gains-none}
use Rattle.cube_build.proofs.counter.gather_where.Goals as goal

pub returns-then-not-hold-clause-gains : goal.returns-then-not-hold-clause-gains
returns-then-not-hold-clause-gains g c =
    let other : hold c.args.conditions.now c.args.fact.now ≡ false = search rules in
    gains-none c.args.conditions.now c.args.fact.now c.args.cube.now other

pub returns-clause-gains : goal.returns-clause-gains
returns-clause-gains g c =
    let holds : hold c.args.conditions.now c.args.fact.now ≡ true = search rules in
    OnOk-both c.gather.result
    (λ adds cells. gains-fact c.args.conditions.now c.args.fact.now c.args.cube.now c.gather.new.self holds adds cells)
    c.gather.ensures.added c.gather.ensures.cube
