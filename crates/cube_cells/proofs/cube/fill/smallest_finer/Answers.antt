use Rattle.std.proofs.Common.{◌∷◌, Contains, sym, subst, arith, ap, suc}
use Rattle.cube_cells.specs.Fill.{IsFiner}
use Rattle.cube_cells.specs.declared.cube.levels.Level.{Level}
use Rattle.cube_cells.proofs.cube.fill.smallest_finer.Goals as goal
use Rattle.cube_cells.proofs.cube.fill.smallest_finer.Goals.{then-is_finer+then-len, else-is_finer}

pub loop-level-preserved : goal.loop-level-preserved
loop-level-preserved g c =
    let P : Level _ → Type 0 =
    λ level. Contains (c.args.finest.now ∷ c.args.levels.now) level × IsFiner level.set c.args.set in
    elim c.if-is_finer.branch [
      | then-is_finer+then-len w ↦
          let here : P c.level-item.result = (
            (suc c.loop-level.level-index, omega (arith, c.loop-level-test.true), sym c.level-item.is),
            c.is_finer.ensures.0 w.if-is_finer.true,
          ) in
          subst P (sym (ap (λ level. level.now) w.smallest-is)) here
      | else-is_finer w ↦ subst P (sym (ap (λ level. level.now) w.smallest-is)) c.loop-level.invariant
    ]
