use Rattle.std.proofs.Common.{List, ap, subst, ℕ}
use Rattle.std.proofs.lemmas.Result.{on_ok_weaker}
use Rattle.cube_cells.specs.BottomUp.{TakesSets}
use Rattle.cube_cells.specs.Cube.{Lattice}
use Rattle.cube_cells.proofs.Cells.SchemaLaws.{its_schema, sets_below}
use Rattle.cube_cells.proofs.Rows.WalkedLaws.{TakesCube-TakesSets}
use Rattle.cube_cells.proofs.cube.finest_cells.FinestCells.walk.Goals as goal

pub walk_sets-requires : goal.walk_sets-requires
walk_sets-requires g c = rw (← c.self.view_is, c.grouping_sets.ensures.value)
    (sets_below (its_schema c.self.invariant.0.coded.lattice))

pub returns : goal.returns
returns g c = on_ok_weaker c.walk_sets.result (λ walked. TakesCube-TakesSets g.S.TakesCells.takes c.args.self.now
    c.args.sink.now c.walk_sets.new.sink (rw (← c.self.view_is) c.self.invariant.0.coded.lattice.no_texts)
    (subst (λ (sets : List ℕ). TakesSets g.S.TakesCells.takes c.args.self.now sets c.args.sink.now
    c.walk_sets.new.sink) (ap (λ (l : Lattice). l.schema.grouping_sets) c.self.view_is) walked))
    (rw c.grouping_sets.ensures.value at c.walk_sets.ensures)
