use Rattle.std.proofs.Common.{◌≤◌, ◌∷◌, ◌++◌, [], arith, false, length, subst, sym, ap, ◌∙◌}
use Rattle.cube_cells.specs.BottomUp.{CanWalk, cells_of_items}
use Rattle.cube_cells.specs.Coded.{CodedCells}
use Rattle.cube_cells.specs.WalkParts.{CanWalkPart, PartOfWalk, PutsRuns, cells_of_lists, part_of}
use Rattle.cube_cells.proofs.Filling.BottomUpLaws.{cells_of_items-range, length-cells_of_items}
use Rattle.cube_cells.proofs.Filling.PartLaws.{CanWalk-at, CanWalkPart-range, IsCutting-more, IsCutting-start, IsRange-run}
use Rattle.cube_cells.proofs.Filling.PartLaws.{PutsRuns-IsCutting, length-cells_of_lists}
use Rattle.cube_cells.proofs.cube.walk_parts.Lists.put_runs.Goals as goal

pub loop-start-init : goal.loop-start-init
loop-start-init g c = IsCutting-start c.args.self.now.kept.now c.args.self.now.dimensions c.args.from
    (cells_of_items c.items_at-items.result.now) c.args.parts.now.items

pub part-requires : goal.part-requires
part-requires g c =
    let items = cells_of_items c.items_at-items.result.now in
    let start = c.loop-start.start in
    let end = c.end_of_range-end.result in
    let can : CanWalk c.args.self.now.dimensions c.args.from items =
    subst (CanWalk c.args.self.now.dimensions c.args.from) (sym c.items_at-items.ensures)
    (CanWalk-at c.args.self.now.dimensions (cells_of_items c.args.self.now.items.now)
    (cells_of_lists c.args.self.now.raised.now) c.args.from c.requires.raised
    (omega (arith, c.requires.within, length-cells_of_lists c.args.self.now.raised.now))) in
    let range = c.end_of_range-end.ensures in
    subst (λ (l : CodedCells). CanWalkPart (part_of c.args.self.now.kept.now c.args.self.now.dimensions c.args.from false l))
    (sym (cells_of_items-range c.items_at-items.result.now start end))
    (CanWalkPart-range c.args.self.now.kept.now c.args.self.now.dimensions c.args.from items start end can
    c.requires.below (omega (arith, range.1, range.2.after)))

pub loop-start-preserved : goal.loop-start-preserved
loop-start-preserved g c =
    let items = cells_of_items c.items_at-items.result.now in
    let start = c.loop-start.start in
    let end = c.end_of_range-end.result in
    let can : CanWalk c.args.self.now.dimensions c.args.from items =
    subst (CanWalk c.args.self.now.dimensions c.args.from) (sym c.items_at-items.ensures)
    (CanWalk-at c.args.self.now.dimensions (cells_of_items c.args.self.now.items.now)
    (cells_of_lists c.args.self.now.raised.now) c.args.from c.requires.raised
    (omega (arith, c.requires.within, length-cells_of_lists c.args.self.now.raised.now))) in
    let range = c.end_of_range-end.ensures in
    IsCutting-more c.args.self.now.kept.now c.args.self.now.dimensions c.args.from items start end
    c.args.parts.now.items c.loop-start.parts.items c.push.new.self.items can c.requires.below c.loop-start.invariant
    (IsRange-run c.args.from items start end range.0 range.1 range.2)
    (c.in_ok-push.ensures.items ∙ ap (λ (part : PartOfWalk). c.loop-start.parts.items ++ part ∷ []) (c.part.ensures
    ∙ ap (part_of c.args.self.now.kept.now c.args.self.now.dimensions c.args.from false)
    (cells_of_items-range c.items_at-items.result.now start end)))

pub returns : goal.returns
returns g c =
    let items = cells_of_items c.items_at-items.result.now in
    let past : length items ≤ c.loop-start.start =
    omega (arith, length-cells_of_items c.items_at-items.result.now, c.loop-start-test.false) in
    subst (λ (l : CodedCells). PutsRuns c.args.self.now.kept.now c.args.self.now.dimensions c.args.from l
    c.args.parts.now.items c.loop-start.parts.items) c.items_at-items.ensures
    (PutsRuns-IsCutting c.args.self.now.kept.now c.args.self.now.dimensions c.args.from items c.loop-start.start
    c.args.parts.now.items c.loop-start.parts.items c.loop-start.invariant past)
