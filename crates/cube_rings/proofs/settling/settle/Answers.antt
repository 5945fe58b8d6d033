use Rattle.std.proofs.Common.{rules}
use Rattle.cube_rings.proofs.DrainLaws.{AllDrained-begin}
use Rattle.cube_rings.proofs.settling.settle.Goals as goal

pub returns-clause-ok : goal.returns-clause-ok
returns-clause-ok g c = record {
  good = c.requires.good;
  enough = search rules;
  sealed = search rules;
  begin = c.hold_all.ensures.begin;
  drained = AllDrained-begin _ _ c.hold_all.ensures.begin;
  kept = c.hold_all.ensures.kept;
}
