use Rattle.std.proofs.Common.{sym}
use Rattle.cube_feed.proofs.LineLaws.{insert_of-fact, update_of-fact, upsert_of-fact, change_by-fact_fault}
use Rattle.cube_feed.proofs.line.put_fact.Goals as goal

pub returns-in-Insert : goal.returns-in-Insert
returns-in-Insert c = rw c.in-Insert.is
    (insert_of-fact c.args.schema.now c.args.fields.now (sym c.requires) _ (rw c.in-Ok.is at c.in_ok-id.ensures))

pub returns-in-Update : goal.returns-in-Update
returns-in-Update c = rw c.in-Update.is
    (update_of-fact c.args.schema.now c.args.fields.now (sym c.requires) _ (rw c.in-Ok.is at c.in_ok-id.ensures))

pub returns-in-Upsert : goal.returns-in-Upsert
returns-in-Upsert c = rw c.in-Upsert.is
    (upsert_of-fact c.args.schema.now c.args.fields.now (sym c.requires) _ (rw c.in-Ok.is at c.in_ok-id.ensures))

pub returns-in-Err : goal.returns-in-Err
returns-in-Err c = change_by-fact_fault c.args.schema.now c.args.fields.now c.args.operation (sym c.requires) _
    (rw c.in-Err.is at c.in_ok-id.ensures)
