use Rattle.std.proofs.lemmas.Result.{on_ok_weaker, IfErr-weaker}
use Rattle.cube_ledger.proofs.build.take_feed.Goals as goal

pub returns-clause-ok : goal.returns-clause-ok
returns-clause-ok g c =
    on_ok_weaker c.take_items.result
    (λ taken. rw c.new-feed.ensures.schema at
    (taken (g.R.Read.remaining c.args.reader) (rw c.new-feed.ensures.schema c.new-feed.ensures.to_come)))
    c.take_items.ensures.ok

pub returns-clause-err : goal.returns-clause-err
returns-clause-err g c =
    IfErr-weaker c.take_items.result _ _
    (λ fault stops. rw c.new-feed.ensures.schema at
    (stops (g.R.Read.remaining c.args.reader) (rw c.new-feed.ensures.schema c.new-feed.ensures.to_come)))
    c.take_items.ensures.err
