use Rattle.cube_tool.proofs.fed.Fed.refused.Goals as goal

pub returns-in-Taken : goal.returns-in-Taken
returns-in-Taken c = rw (c.in-Taken.is) c.refused.ensures.refusals

pub returns-in-Built : goal.returns-in-Built
returns-in-Built c = rw (c.in-Built.is) c.refused_of.ensures
