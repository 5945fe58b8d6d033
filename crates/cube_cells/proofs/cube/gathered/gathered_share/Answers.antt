use Rattle.std.proofs.Common.{arith, ◌≡◌, ◌==◌, ◌+◌, Bool, List, map, take, true}
use Rattle.std.proofs.lemmas.List.{length-map, take_all}
use Rattle.std.proofs.lemmas.List.Elements.{All-filter}
use Rattle.cube_core.specs.Layout.{cube_schema}
use Rattle.cube_core.specs.Takes.{fits}
use Rattle.cube_core.specs.declared.fact.Fact.{Fact}
use Rattle.cube_cells.specs.Gathered.{share_of_fact}
use Rattle.cube_cells.proofs.Filling.GatheredLaws.{All-range, AreMarks-length, AreMarks-range, HasGathered-none}
use Rattle.cube_cells.proofs.Filling.GatheredLaws.{HasGathered-range}
use Rattle.cube_cells.proofs.cube.gathered.gathered_share.Goals as goal

pub loop-done-init : goal.loop-done-init
loop-done-init g c = record {
  within = omega arith;
  has = λ shares are.
      HasGathered-none c.args.schema.now c.in_ok-cube.cube c.in_ok-cube.ensures.new c.in_ok-cube.ensures.cube;
}

pub pick-requires : goal.pick-requires
pick-requires g c =
    let end = c.loop-done.done + c.min.result in
    let are = AreMarks-range c.requires.marks.0 c.args.facts.now c.args.marks.now c.loop-done.done end c.requires.marks.1 in
    AreMarks-length c.requires.marks.0 _ _ are

pub gather_lot-requires : goal.gather_lot-requires
gather_lot-requires g c =
    let schema = cube_schema c.args.schema.now in
    let shares = c.requires.marks.0 in
    let end = c.loop-done.done + c.min.result in
    let p : Fact → Bool = λ fact. share_of_fact shares fact == c.args.share in
    let fit = All-range (λ f. fits schema f ≡ true) c.args.facts.now c.loop-done.done end c.requires.fit in
    let are = AreMarks-range shares c.args.facts.now c.args.marks.now c.loop-done.done end c.requires.marks.1 in
    rw (
      (c.loop-done.invariant.has shares c.requires.marks.1).schema_is,
      c.deref.ensures.value,
      c.in_ok-pick.ensures shares are,
    ) (All-filter p (λ f. fits schema f ≡ true) _ fit)

pub loop-done-preserved : goal.loop-done-preserved
loop-done-preserved g c = record {
  within = omega (arith, c.min.ensures);
  has = λ shares marks.
      let end = c.loop-done.done + c.min.result in
      let are = AreMarks-range shares c.args.facts.now c.args.marks.now c.loop-done.done end marks in
      HasGathered-range (cube_schema c.args.schema.now) (λ fact. share_of_fact shares fact == c.args.share)
      c.args.facts.now c.loop-done.done end c.loop-done.cube c.gather_lot.new.cube
      (omega arith) (c.loop-done.invariant.has shares marks)
      (rw (c.deref.ensures.value, c.in_ok-pick.ensures shares are) at c.in_ok-gather_lot.ensures);
}

pub returns : goal.returns
returns g c = λ shares are.
    let refs = c.args.facts.now in
    let facts : List Fact = map (λ fact. fact.now) refs in
    let all : take c.loop-done.done facts ≡ facts =
    take_all c.loop-done.done facts (omega (arith, length-map refs (λ fact. fact.now))) in
    rw all at c.loop-done.invariant.has shares are
