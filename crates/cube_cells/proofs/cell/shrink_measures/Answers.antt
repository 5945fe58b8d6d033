use Rattle.std.proofs.Common.{◌∙◌, ap, set}
use Rattle.std.proofs.lemmas.List.{set-get_or}
use Rattle.cube_cells.proofs.cell.shrink_measures.Goals as goal

pub loop-measure-preserved : goal.loop-measure-preserved
loop-measure-preserved g c =
    let measures = c.loop-measure.measures in
    let i = c.loop-measure.measure-index in
    ap (set measures i) c.shrink_to_fit.ensures ∙ set-get_or measures i c.measure-item.result ∙ c.loop-measure.invariant
