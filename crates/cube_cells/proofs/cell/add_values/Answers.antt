use Rattle.std.proofs.Common.{take}
use Rattle.cube_cells.proofs.Tallies.ValueLaws.{AddsValues-value_at, AddsValues-SameBags}
use Rattle.cube_cells.proofs.cell.add_values.Goals as goal

pub take_values-requires-clause-held : goal.take_values-requires-clause-held
take_values-requires-clause-held c =
    AddsValues-value_at c.args.measures.now c.gather_values.new.measures (take c.in-Err.added c.args.values.now)
    c.in-Err.ensures.some

pub returns-clause-err : goal.returns-clause-err
returns-clause-err c =
    AddsValues-SameBags c.args.measures.now c.gather_values.new.measures c.take_values.new.measures
    (take c.in-Err.added c.args.values.now) c.in-Err.ensures.some c.take_values.ensures
