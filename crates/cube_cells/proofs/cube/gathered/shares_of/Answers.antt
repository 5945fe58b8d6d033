use Rattle.std.proofs.Common.{arith, ◌≡◌, List, length, map}
use Rattle.std.proofs.Math.Seq.{take-append_seam}
use Rattle.std.proofs.lemmas.List.{length-map}
use Rattle.cube_core.specs.declared.fact.Fact.{Fact}
use Rattle.cube_cells.proofs.Filling.GatheredLaws.{AreMarks-length, AreMarks-one}
use Rattle.cube_cells.proofs.cube.gathered.shares_of.Goals as goal

pub returns-then-shares-eq1 : goal.returns-then-shares-eq1
returns-then-shares-eq1 g c =
    let facts : List Fact = map (λ r. r.now) c.args.facts.now in
    let many : length facts ≡ length c.args.facts.now = length-map c.args.facts.now (λ r. r.now) in
    rw (c.in_ok-marks.ensures.items_if_clones_equal (λ y same. same), c.if-shares-eq1.true) (rw many at (AreMarks-one facts))

pub returns : goal.returns
returns g c =
    let marks = c.find_shares.new.marks in
    let long : c.in_ok-marks.marks.len ≡ length marks = omega (
      arith,
      c.in_ok-marks.ensures.len,
      AreMarks-length c.args.shares c.args.facts.now marks c.find_shares.ensures,
    ) in
    rw (long, take-append_seam marks _) c.find_shares.ensures
