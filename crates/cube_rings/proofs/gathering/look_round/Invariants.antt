use Rattle.std.proofs.Common.{◌≡◌, List, length}
use Rattle.cube_rings.specs.Link.{Receiving}
use Rattle.cube_rings.specs.Gathering.{Gathering, links_ended}
use Rattle.cube_rings.specs.declared.parcel.Parcel.{Parcel}
use Rattle.cube_rings.proofs.gathering.look_round.Given as goal

abbrev pub invariant-loop-i : goal.invariant-loop-i
invariant-loop-i g l = record {
  sources : g.B.TakesItems.sources l.builder ≡ g.B.TakesItems.sources l.initial.builder;
  places : length l.taken ≡ 64;
  gathering : (first : _) (start : List (Receiving Parcel)) →
      Gathering (g.B.TakesItems.stands first) start l.initial.inlets
      (links_ended l.initial.taken) l.initial.builder l.initial.wanting →
      Gathering (g.B.TakesItems.stands first) start l.inlets (links_ended l.taken) l.builder l.wanting;
}
