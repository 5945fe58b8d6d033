use Rattle.std.proofs.Common.{arith, ◌≡◌, ◌<◌, ◌+◌, length, get_or, refl, suc}
use Rattle.std.proofs.lemmas.List.{get_or_read}
use Rattle.cube_cells.proofs.Filling.MergedLaws.{recoded_codes-more}
use Rattle.cube_cells.proofs.cube.merged.recoded.Goals as goal

pub loop-dimension-preserved : goal.loop-dimension-preserved
loop-dimension-preserved c =
    let d = c.loop-dimension.dimension in
    let columns = c.args.columns.now in
    let column = c.index-columns-dimension.result in
    let inside : d < length columns = omega arith in
    let here : column ≡ get_or columns d column =
    get_or_read columns d column inside c.index-columns-dimension.is column in
    let more = recoded_codes-more columns c.args.codes.now.codes d column inside (omega arith) in
    let next : d + 1 ≡ suc d = omega arith in
    rw (next, more, ← here, ← c.loop-dimension.invariant, c.recode.ensures) refl
