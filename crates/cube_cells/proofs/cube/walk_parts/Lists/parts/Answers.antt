use Rattle.std.proofs.Common.{◌≡◌, ◌∷◌, [], arith, get_or, length, subst}
use Rattle.cube_cells.specs.BottomUp.{cells_of_items}
use Rattle.cube_cells.specs.Coded.{CodedCells}
use Rattle.cube_cells.specs.WalkParts.{cells_of_lists}
use Rattle.cube_cells.proofs.Filling.PartLaws.{ArePartsOf-last, IsGoing, IsGoing-more, IsGoing-start, length-cells_of_lists}
use Rattle.cube_cells.proofs.cube.walk_parts.Lists.parts.Goals as goal

pub put_runs-requires-clause-below : goal.put_runs-requires-clause-below
put_runs-requires-clause-below g c = omega (
  arith,
  c.loop-from-test.true,
  c.requires.few,
  length-cells_of_lists c.args.self.now.raised.now,
)

pub loop-from-init : goal.loop-from-init
loop-from-init g c = record {
  within = omega arith;
  going = rw c.new-parts.ensures.items
      (IsGoing-start c.args.self.now.kept.now c.args.self.now.dimensions (cells_of_items c.args.self.now.items.now));
}

pub loop-from-preserved : goal.loop-from-preserved
loop-from-preserved g c = record {
  within = omega (arith, c.loop-from-test.true);
  going = IsGoing-more c.args.self.now.kept.now c.args.self.now.dimensions (cells_of_items c.args.self.now.items.now)
      c.loop-from.from (cells_of_lists c.args.self.now.raised.now) c.loop-from.parts.items c.put_runs.new.parts.items
      c.requires (omega (arith, c.loop-from-test.true, length-cells_of_lists c.args.self.now.raised.now))
      c.loop-from.invariant.going c.in_ok-put_runs.ensures;
}

pub returns : goal.returns
returns g c =
    let lists = c.args.self.now in
    let items : CodedCells = cells_of_items lists.items.now in
    let raised = cells_of_lists lists.raised.now in
    let all : c.loop-from.from ≡ length lists.raised.now =
    omega (arith, c.loop-from-test.false, c.loop-from.invariant.within) in
    let going = subst (λ n. IsGoing lists.kept.now lists.dimensions items n (get_or (items ∷ raised) n [])
    c.loop-from.parts.items) all c.loop-from.invariant.going in
    ArePartsOf-last lists.kept.now lists.dimensions items (length lists.raised.now)
    (get_or (items ∷ raised) (length lists.raised.now) []) c.loop-from.parts.items c.put_last.new.parts.items going
    c.in_ok-put_last.ensures
