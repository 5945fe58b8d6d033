use Rattle.std.proofs.Common.{◌<◌, ◌==◌, ◌∙◌, ◌∷◌, [], ℕ, Bool, ap, arith, get_or, length, sym, take}
use Rattle.std.specs.Prelude.{filter}
use Rattle.std.proofs.lemmas.List.{take_more}
use Rattle.std.proofs.lemmas.List.Elements.{filter-append}
use Rattle.cube_core.specs.GroupingSet.{part_of}
use Rattle.cube_cells.proofs.cube.kept_sets.Goals as goal

pub loop-set-preserved : goal.loop-set-preserved
loop-set-preserved c =
    let i = c.loop-set.set-index in
    let chosen = c.args.chosen.now in
    let is_kept : ℕ → Bool = λ set. part_of c.args.of set == c.args.part in
    let inside : i < length chosen = omega (arith, c.loop-set-test.true) in
    (rw (c.part_of.ensures, c.loop-set.invariant) at c.in_ok-push_kept.ensures)
    ∙ sym (ap (filter is_kept) (take_more chosen i 0 inside) ∙ filter-append is_kept (take i chosen)
    (get_or chosen i 0 ∷ []))
