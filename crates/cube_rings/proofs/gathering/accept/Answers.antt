use Rattle.std.proofs.lemmas.Result.{on_ok_weaker, on_err_weaker}
use Rattle.cube_rings.proofs.GatherLaws.{stands-dropped, stands-taken}
use Rattle.cube_rings.proofs.gathering.accept.Goals as goal

pub returns-then-wanting-clause-stands : goal.returns-then-wanting-clause-stands
returns-then-wanting-clause-stands g c = λ first arrivals at.
    stands-dropped (g.B.TakesItems.stands first) c.args.builder.now c.args.wanting.now arrivals
    (c.args.source, c.args.item) c.if-wanting.true at

pub returns-clause-stands : goal.returns-clause-stands
returns-clause-stands g c = λ first arrivals at.
    rw c.is_err.ensures.value
    (stands-taken (g.B.TakesItems.stands first) c.args.builder.now c.take_item.new.self c.take_item.result arrivals
    (c.args.source, c.args.item) (rw c.if-wanting.false at at)
    (on_ok_weaker c.take_item.result (λ taken. taken first) c.take_item.ensures.stands)
    (on_err_weaker c.take_item.result (λ stays. stays first) c.take_item.ensures.unchanged))
