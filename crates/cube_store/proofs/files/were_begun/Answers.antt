use Rattle.std.proofs.Common.{inr}
use Rattle.std.proofs.lemmas.Result.{IfOk-weaker}
use Rattle.cube_store.proofs.FileLaws as laws
use Rattle.cube_store.proofs.files.were_begun.Goals as goal

pub returns-clause-ok : goal.returns-clause-ok
returns-clause-ok g c =
    IfOk-weaker c.begins_making.result _ _ (λ begun ok clean is blank. inr (blank, ok (laws.log_is_clean (g.D.Disk.is_clean c.begins_making.new.log) (g.D.Disk.is_clean c.is_empty.new.db) clean) is)) c.begins_making.ensures.ok
