use Rattle.std.proofs.Common.{◌<◌, length, get_or, [], arith}
use Rattle.std.proofs.lemmas.List.{get_or_read, length-set}
use Rattle.cube_core.specs.declared.key.Coord.TheVariants as coord
use Rattle.cube_cells.specs.Codes.{IsCodeOf}
use Rattle.cube_cells.proofs.Codes.CodeLaws.{AreCodesOf-more, AreCodesOf-all}
use Rattle.cube_cells.proofs.cube.codes_of_coords.Goals as goal

pub loop-place-preserved : goal.loop-place-preserved
loop-place-preserved c =
    let i = c.loop-place.place in
    let inside : i < length c.args.coords.now = omega arith in
    let dictionary = get_or_read c.args.dictionaries.now i c.index-dictionaries-place.result
    (omega arith) c.index-dictionaries-place.is [] in
    let coordinate =
    get_or_read c.args.coords.now i c.index-coords-place.result inside c.index-coords-place.is coord.All in
    let of :
    IsCodeOf (get_or c.args.dictionaries.now i []) (get_or c.args.coords.now i coord.All) c.code_of_coord.result =
    rw (← dictionary, ← coordinate) c.code_of_coord.ensures in
    record {
      eight = omega (arith, length-set c.loop-place.codes i c.code_of_coord.result);
      codes = AreCodesOf-more c.args.dictionaries.now c.args.coords.now c.loop-place.codes i c.code_of_coord.result
          c.loop-place.invariant.codes (omega arith) c.requires.width (omega arith) of;
    }

pub returns-clause-codes : goal.returns-clause-codes
returns-clause-codes c = AreCodesOf-all c.args.dictionaries.now c.args.coords.now c.loop-place.codes c.loop-place.place
    (omega arith) (omega arith) c.loop-place.invariant.codes
