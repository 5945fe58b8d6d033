use Rattle.std.proofs.Common.{◌≡◌, arith, length}
use Rattle.cube_cells.proofs.Cells.TableLaws.{mask_of_codes-eight}
use Rattle.cube_cells.proofs.cube.codes.Codes.mask.Goals as goal

pub returns : goal.returns
returns c =
    let codes = c.args.self.now.codes in
    let eight : length codes ≡ 8 = omega arith in
    rw (c.mask_of_four-low.ensures.mask, c.mask_of_four-high.ensures.mask) (mask_of_codes-eight codes eight)
