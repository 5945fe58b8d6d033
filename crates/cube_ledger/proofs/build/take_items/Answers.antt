use Rattle.std.proofs.Common.{◌≡◌, false, refl, sym, ◌∙◌}
use Rattle.std.specs.Prelude.{is_err}
use Rattle.cube_feed.proofs.FaultLaws.{OnOk-holds}
use Rattle.cube_ledger.proofs.FeedLaws.{HasTaken-none, HasTaken-more, TakesFeed-all, fault-told}
use Rattle.cube_ledger.proofs.build.take_items.Goals as goal

pub loop-item-init : goal.loop-item-init
loop-item-init g c = HasTaken-none _ _ _ c.requires.schema

pub loop-item-preserved : goal.loop-item-preserved
loop-item-preserved g c =
    let fine : is_err c.apply_taken.result ≡ false = sym c.is_err.ensures.value ∙ c.if-is_err.false in
    HasTaken-more _ _ _ _ c.next.new.self _ _ c.in-Ok-Some.item
    (rw c.in-Ok-Some.field-0-is at c.in-Ok-Some.ensures.gives)
    c.next.ensures.schema
    (OnOk-holds c.apply_taken.result _ fine c.apply_taken.ensures.enters)
    (OnOk-holds c.apply_taken.result _ fine c.apply_taken.ensures.stands)
    c.loop-item.invariant

pub returns-in-Err-clause-ok : goal.returns-in-Err-clause-ok
returns-in-Err-clause-ok g c = tt

pub returns-in-Ok-None-clause-ok : goal.returns-in-Ok-None-clause-ok
returns-in-Ok-None-clause-ok g c bytes is =
    TakesFeed-all c.args.feed.now.schema bytes c.args.feed.now.to_come c.args.source c.args.ledger.now c.loop-item.ledger
    c.loop-item.feed c.next.new.self is c.loop-item.invariant (rw c.in-Ok-None.field-0-is at c.in-Ok-None.ensures.gives)

pub returns-in-Err-clause-err : goal.returns-in-Err-clause-err
returns-in-Err-clause-err g c bytes is = (
  refl,
  fault-told c.args.feed.now.schema bytes c.args.feed.now.to_come c.args.source c.args.ledger.now c.loop-item.ledger
      c.loop-item.feed c.next.new.self c.in-Err.fault is c.loop-item.invariant c.in-Err.ensures.gives,
)
