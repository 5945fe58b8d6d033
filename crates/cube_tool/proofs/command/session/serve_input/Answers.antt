use Rattle.cube_tool.proofs.command.session.serve_input.Goals as goal

pub returns-clause-ok : goal.returns-clause-ok
returns-clause-ok g c = rw c.new-records.ensures.left at c.serve.ensures.ok

pub returns-clause-err : goal.returns-clause-err
returns-clause-err g c = rw c.new-records.ensures.left at c.serve.ensures.err
