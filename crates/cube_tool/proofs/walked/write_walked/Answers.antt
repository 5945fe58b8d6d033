use Rattle.cube_ledger.specs.Ledger.{all_facts}
use Rattle.cube_tool.proofs.AnsweringLaws.{Writes-weaker}
use Rattle.cube_tool.proofs.CellFactLaws.{IsPrinted-cells}
use Rattle.cube_tool.proofs.walked.write_walked.Goals as goal

pub returns-in-Summaries : goal.returns-in-Summaries
returns-in-Summaries g c =
    let ledger = c.args.taken.now.ledger in
    let have = rw c.in-Summaries.is at c.cells.ensures.has in
    Writes-weaker c.write_finest.result _ _
    (IsPrinted-cells ledger.schema (all_facts ledger.accounts) _ have.schema have.has) c.write_finest.ensures

pub returns-in-Numbers : goal.returns-in-Numbers
returns-in-Numbers g c =
    let ledger = c.args.taken.now.ledger in
    let have = rw c.in-Numbers.is at c.cells.ensures.has in
    Writes-weaker c.write_finest-in-Numbers.result _ _
    (IsPrinted-cells ledger.schema (all_facts ledger.accounts) _ have.schema have.has)
    c.write_finest-in-Numbers.ensures
