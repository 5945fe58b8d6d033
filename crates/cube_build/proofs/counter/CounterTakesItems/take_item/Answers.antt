use Rattle.std.proofs.lemmas.Result.{on_err_weaker, on_ok_weaker}
use Rattle.cube_build.proofs.CountingLaws.{counter-further}
use Rattle.cube_build.proofs.counter.CounterTakesItems.take_item.Goals as goal

pub returns-clause-stands : goal.returns-clause-stands
returns-clause-stands g c =
    on_ok_weaker c.apply.result
    (λ counts. counter-further c.args.self.now c.apply.new.self c.args.source c.args.item c.requires.source.0
    c.requires.source.1 c.apply.ensures.sources counts)
    (rw c.into_item.ensures.item at c.apply.ensures.counts)

pub returns-clause-unchanged : goal.returns-clause-unchanged
returns-clause-unchanged g c =
    on_err_weaker c.apply.result (λ spent. λ first arrivals stands unspent. cc (spent, unspent)) c.apply.ensures.spent
