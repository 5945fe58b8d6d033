use Rattle.std.proofs.Common.{◌≡◌}
use Rattle.cube_live.proofs.KeepingLaws.{HasKept}
use Rattle.cube_live.proofs.ServingLaws.{HasGone}
use Rattle.cube_live.proofs.TakenLaws.{HasTaken}
use Rattle.cube_live.proofs.session.serve.Given as goal

abbrev pub invariant-loop-turn : goal.invariant-loop-turn
invariant-loop-turn g l = record {
  schema : l.live.schema ≡ l.initial.live.schema;
  kept : HasKept g.J.Journal.keeps g.J.Journal.breaks l.initial.journal l.journal l.initial.live.schema
      l.initial.records.left l.initial.live l.records.left l.live l.sent
      (g.W.Write.contents l.initial.out) (g.W.Write.contents l.out);
  gone : HasGone l.initial.live.schema l.initial.records.left l.initial.live l.records.left l.live l.sent
      (g.W.Write.contents l.initial.out) (g.W.Write.contents l.out);
  taken : HasTaken l.initial.live.schema l.initial.records.left l.initial.live l.records.left l.live
      l.initial.records.taken l.records.taken l.sent (g.W.Write.contents l.initial.out) (g.W.Write.contents l.out);
}
