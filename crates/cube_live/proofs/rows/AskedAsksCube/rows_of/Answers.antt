use Rattle.cube_live.proofs.rows.AskedAsksCube.rows_of.Goals as goal

pub returns-in-Slice : goal.returns-in-Slice
returns-in-Slice c = rw c.in-Slice.is c.slice_rows.ensures

pub returns-in-Drill : goal.returns-in-Drill
returns-in-Drill c = rw c.in-Drill.is c.rows_of.ensures

pub returns-in-RollUp : goal.returns-in-RollUp
returns-in-RollUp c = rw c.in-RollUp.is c.roll_up_rows.ensures
