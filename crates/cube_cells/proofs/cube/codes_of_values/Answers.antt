use Rattle.std.proofs.Common.{◌<◌, ◌∙◌, length, get_or, map, take, None, [], arith, sym, ap}
use Rattle.std.proofs.lemmas.List.{get_or_read, get_or-map, get_or-take, length-map, length-set, length-take-le}
use Rattle.cube_core.specs.declared.key.Coord.TheVariants as coord
use Rattle.cube_cells.specs.Codes.{IsCodeOf, coord_of_value}
use Rattle.cube_cells.proofs.Codes.CodeLaws.{AreCodesOf-more, AreCodesOf-all}
use Rattle.cube_cells.proofs.cube.codes_of_values.Goals as goal

pub loop-place-preserved : goal.loop-place-preserved
loop-place-preserved c =
    let i = c.loop-place.place in
    let number = length c.args.dictionaries.now in
    let dims = take number c.args.values.now in
    let long = length-take-le number c.args.values.now c.requires.width in
    let coords = map coord_of_value dims in
    let inside : i < length dims = omega (arith, long) in
    let dictionary = get_or_read c.args.dictionaries.now i c.index-dictionaries-place.result
    (omega arith) c.index-dictionaries-place.is [] in
    let value = c.get.ensures ∙ sym (get_or-take number c.args.values.now i None (omega arith)) in
    let coordinate =
    ap coord_of_value value ∙ sym (get_or-map coord_of_value dims i None coord.All inside) in
    let of : IsCodeOf (get_or c.args.dictionaries.now i []) (get_or coords i coord.All) c.code_of_value.result =
    rw (← dictionary, ← coordinate) c.code_of_value.ensures in
    record {
      eight = omega (arith, length-set c.loop-place.codes i c.code_of_value.result);
      codes = AreCodesOf-more c.args.dictionaries.now coords c.loop-place.codes i c.code_of_value.result
          c.loop-place.invariant.codes (omega arith) (length-map dims coord_of_value ∙ long) (omega arith) of;
    }

pub returns-clause-codes : goal.returns-clause-codes
returns-clause-codes c =
    let dims = take (length c.args.dictionaries.now) c.args.values.now in
    AreCodesOf-all c.args.dictionaries.now (map coord_of_value dims) c.loop-place.codes c.loop-place.place
    (omega arith) (omega (
      arith,
      length-map dims coord_of_value,
      length-take-le (length c.args.dictionaries.now) c.args.values.now c.requires.width,
    )) c.loop-place.invariant.codes
