use Rattle.std.proofs.Common.{◌<◌, ◌∙◌, ◌∷◌, [], ap, arith, get_or, length, sym, take}
use Rattle.std.specs.Prelude.{filter}
use Rattle.std.proofs.lemmas.List.{take_more}
use Rattle.std.proofs.lemmas.List.Elements.{filter-append}
use Rattle.cube_cells.specs.FinestRows.{can_be_of}
use Rattle.cube_cells.proofs.cube.finest_rows.sets_where.Goals as goal

pub loop-set-preserved : goal.loop-set-preserved
loop-set-preserved c =
    let i = c.loop-set.set-index in
    let sets = c.args.sets.now in
    let inside : i < length sets = omega (arith, c.loop-set-test.true) in
    (rw (c.can_be_of.ensures, c.loop-set.invariant) at c.in_ok-push_kept.ensures)
    ∙ sym (ap (filter (can_be_of c.args.wants.now)) (take_more sets i 0 inside)
    ∙ filter-append (can_be_of c.args.wants.now) (take i sets) (get_or sets i 0 ∷ []))
