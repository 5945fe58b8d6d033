use Rattle.cube_store_commands.proofs.StoredLaws as laws
use Rattle.cube_store_commands.proofs.session.serve_resumed.Goals as goal

pub returns-clause-err : goal.returns-clause-err
returns-clause-err g c =
    laws.FailsStored-made g.S.Store.view g.S.Store.recovers c.args.live c.args.journal c.serve.new.journal
    c.into_store.result c.in-Err.fault (g.W.Write.contents c.args.out.now) (g.W.Write.contents c.serve.new.out)
    c.args.records.now.left c.into_store.ensures c.in-Err.ensures.err_kept
