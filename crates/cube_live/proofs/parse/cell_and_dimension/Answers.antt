use Rattle.std.proofs.Common.{◌∙◌, sym}
use Rattle.csv.specs.Records.{fields_of}
use Rattle.cube_live.proofs.RequestLaws.{at-found, at-no_cell}
use Rattle.cube_live.proofs.parse.cell_and_dimension.Goals as goal

pub returns-in-Ok : goal.returns-in-Ok
returns-in-Ok c =
    c.with_dimension.ensures ∙ at-found c.args.schema.now (fields_of c.args.fields.now) c.in-Ok.key
    (sym c.in_ok-key.ensures ∙ c.in-Ok.is) c.place_of.result (rw c.field_at.ensures at c.place_of.ensures)

pub returns-in-Err : goal.returns-in-Err
returns-in-Err c =
    at-no_cell c.args.schema.now (fields_of c.args.fields.now) c.in-Err.fault (sym c.in_ok-key.ensures ∙ c.in-Err.is)
