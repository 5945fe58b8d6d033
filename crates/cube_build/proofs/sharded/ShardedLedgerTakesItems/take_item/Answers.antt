use Rattle.std.proofs.lemmas.Result.{on_err_weaker, on_ok_weaker}
use Rattle.cube_build.proofs.ShardingLaws.{sharded-further, sharded-spent}
use Rattle.cube_build.proofs.sharded.ShardedLedgerTakesItems.take_item.Goals as goal

pub returns-clause-stands : goal.returns-clause-stands
returns-clause-stands g c =
    on_ok_weaker c.settle_if_many.result
    (λ keeps. λ first arrivals stands. sharded-further first c.args.self.now c.put_in.new.self c.settle_if_many.new.self
    c.args.source c.args.item arrivals c.requires.source.0 c.requires.source.1 c.in_ok-put_in.ensures.awaits keeps
    stands) c.settle_if_many.ensures.keeps

pub returns-clause-unchanged : goal.returns-clause-unchanged
returns-clause-unchanged g c =
    on_err_weaker c.settle_if_many.result
    (λ spent. λ first arrivals stands. sharded-spent first c.settle_if_many.new.self arrivals spent)
    c.settle_if_many.ensures.spent
