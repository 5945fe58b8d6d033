use Rattle.std.proofs.Common.{◌≡◌, ◌<◌, ◌^◌, arith, length}
use Rattle.std.specs.Prelude.{All}
use Rattle.std.proofs.lemmas.Result.{on_ok_weaker}
use Rattle.cube_cells.specs.BottomUp.{cells_of_items}
use Rattle.cube_cells.proofs.Rows.WalkedLaws.{CanWalk-AreToWalk, TakesSets-TakesWalk, TakesSets-total}
use Rattle.cube_cells.proofs.cube.finest_cells.FinestCells.walk_sets.Goals as goal

pub returns-then-self-eq0 : goal.returns-then-self-eq0
returns-then-self-eq0 g c =
    let width = rw c.measures.ensures.value at c.in_ok-cell.ensures.measures in
    on_ok_weaker c.take_if_kept.result (λ taken. rw (← c.self.view_is)
    (TakesSets-total g.S.TakesCells.takes c.self.inside.schema c.self.inside.facts c.self.inside.texts.items
    (cells_of_items c.self.inside.items.items) c.args.sets.now c.in_ok-kept.kept.items c.in_ok-cell.cell
    c.args.sink.now c.take_if_kept.new.sink c.self.invariant.0 c.if-self-eq0.true c.in_ok-kept.ensures
    c.in_ok-cell.ensures.tally width taken))
    (rw (c.deref.ensures.value, c.total.ensures) at c.take_if_kept.ensures)

pub walk-requires-clause-items : goal.walk-requires-clause-items
walk-requires-clause-items g c = rw (c.dimensions-dimensions.ensures.value, c.deref-3.ensures.value)
    (CanWalk-AreToWalk c.self.inside.schema c.self.inside.facts c.self.inside.texts.items
    (cells_of_items c.self.inside.items.items) c.self.invariant.0)

pub returns : goal.returns
returns g c =
    let some : c.self.inside.facts ≡ 0 → ⊥ = λ none. absurd (omega (arith, none, c.if-self-eq0.false)) in
    let within : All (λ set. set < 2 ^ length c.self.inside.schema.dimensions) c.args.sets.now =
    rw (← c.self.view_is) at c.requires in
    on_ok_weaker c.walk.result (λ walked. rw (← c.self.view_is)
    (TakesSets-TakesWalk g.S.TakesCells.takes c.self.inside.schema c.self.inside.facts c.self.inside.texts.items
    (cells_of_items c.self.inside.items.items) c.args.sets.now c.in_ok-kept.kept.items c.args.sink.now
    c.walk.new.sink c.self.invariant.0 some within c.in_ok-kept.ensures walked))
    (rw (c.dimensions-dimensions.ensures.value, c.deref-2.ensures.value, c.deref-3.ensures.value) at c.walk.ensures)
