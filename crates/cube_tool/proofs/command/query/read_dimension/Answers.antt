use Rattle.std.proofs.Common.{ℕ, ap, subst, sym}
use Rattle.std.specs.Prelude.{◌<◌, IfOk, Result}
use Rattle.cube_core.specs.Layout.{number_of_dimensions}
use Rattle.cube_core.specs.declared.query.QueryFault.{QueryFault}
use Rattle.cube_live.proofs.RequestLaws.{place_of-below}
use Rattle.cube_tool.specs.Command.{answer_of}
use Rattle.cube_tool.proofs.command.query.read_dimension.Goals as goal

pub returns-in-Ok-clause-place : goal.returns-in-Ok-clause-place
returns-in-Ok-clause-place c = ap answer_of c.in-Ok.ensures

pub returns-in-Err-clause-place : goal.returns-in-Err-clause-place
returns-in-Err-clause-place c = ap answer_of c.in-Err.ensures

pub returns-in-Ok-clause-within : goal.returns-in-Ok-clause-within
returns-in-Ok-clause-within c =
    let s = c.args.schema.now in
    subst (λ (r : Result ℕ QueryFault). IfOk r (λ place. place < number_of_dimensions s)) (sym c.in-Ok.ensures)
    (place_of-below s c.args.name.now)
