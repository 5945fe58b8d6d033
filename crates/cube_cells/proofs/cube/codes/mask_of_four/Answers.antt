use Rattle.cube_cells.proofs.Cells.TableLaws.{mask_of_codes-four}
use Rattle.cube_cells.proofs.cube.codes.mask_of_four.Goals as goal

pub returns-clause-mask : goal.returns-clause-mask
returns-clause-mask c = mask_of_codes-four c.args.first c.args.second c.args.third c.args.fourth _ _ _ _
    c.mask_bit.ensures.bit c.mask_bit-2.ensures.bit c.mask_bit-3.ensures.bit c.mask_bit-4.ensures.bit
