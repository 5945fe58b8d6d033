use Rattle.cube_tool.proofs.QueryWordLaws.{cell-length}
use Rattle.cube_tool.proofs.command.query.read_cell.Goals as goal

pub returns-in-Ok-clause-width : goal.returns-in-Ok-clause-width
returns-in-Ok-clause-width c =
    cell-length c.args.schema.now c.args.word.now c.in_ok-pattern.pattern c.in-Ok.key c.in_ok-pattern.ensures
    c.in-Ok.ensures
