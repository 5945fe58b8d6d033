use Rattle.std.specs.Prelude.{bit_and}
use Rattle.std.proofs.lemmas.Bool.{eq-eqb, eqb-true}
use Rattle.cube_cells.proofs.cube.fill.is_finer.Goals as goal

pub returns-then-set-finer : goal.returns-then-set-finer
returns-then-set-finer c =
    let both = bit_and c.args.finer c.args.set in
    (λ same. (c.if-set-finer.true, eqb-true both c.args.set same), λ is. eq-eqb both c.args.set is.1)
