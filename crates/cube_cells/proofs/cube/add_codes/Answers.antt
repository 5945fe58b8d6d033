use Rattle.std.proofs.Common.{◌≡◌, ◌<◌, ◌∙◌, length, get_or, map, set, take, ℕ, List, Option, None, [], true, arith, sym, ap}
use Rattle.std.specs.Prelude.{option_map}
use Rattle.std.proofs.lemmas.List.{get_or_default, get_or-map, get_or-set_same, get_or-take, length-map, length-set, length-take-le}
use Rattle.std.proofs.lemmas.List.Elements.{All-set}
use Rattle.cube_core.specs.declared.key.Coord.TheVariants as coord
use Rattle.cube_cells.specs.Codes.{IsCodeOf, IsDictionary, is_code, coord_of_value, texts_with}
use Rattle.cube_cells.proofs.Codes.CodeLaws.{AreCodesOf-more, AreCodesOf-set, are_codes-more, are_codes-set}
use Rattle.cube_cells.proofs.Codes.CodeLaws.{AddsTextsBelow-more}
use Rattle.cube_cells.proofs.cube.add_codes.Goals as goal

pub loop-place-preserved : goal.loop-place-preserved
loop-place-preserved c =
    let i = c.loop-place.place in
    let number = length c.args.dictionaries.now in
    let dims = take number c.args.values.now in
    let coords = map coord_of_value dims in
    let code = c.in_ok-codes.field-0 in
    let texts = c.code_with.new.self in
    let old = c.loop-place.dictionaries in
    let new = set old i texts in
    let inside : i < length dims = omega (arith, length-take-le number c.args.values.now c.requires.width) in
    let room : i < length old = omega (arith, c.requires.width) in
    let more : i < length new = omega (arith, length-set old i texts) in
    let value = c.get.ensures ∙ sym (get_or-take number c.args.values.now i None (omega arith)) in
    let coordinate = ap coord_of_value value ∙ sym (get_or-map coord_of_value dims i None coord.All inside) in
    let here = get_or-set_same old i texts [] room in
    let of : IsCodeOf (get_or new i []) (get_or coords i coord.All) code =
    rw (here, ← coordinate) c.in_ok-codes.ensures.code in
    let valid : is_code (get_or new i []) code ≡ true = rw here c.in_ok-codes.ensures.valid in
    let added : texts ≡ texts_with (get_or dims i None) (get_or old i []) =
    c.in_ok-codes.ensures.texts ∙ ap (texts_with (option_map (λ text. text.now) c.get.result))
    (get_or_default old i c.index-dictionaries-place.result [] room)
    ∙ ap (λ (v : Option (List ℕ)). texts_with v (get_or old i [])) value in
    record {
      eight = omega (arith, length-set c.loop-place.codes i code);
      codes = AreCodesOf-more new coords c.loop-place.codes i code
          (AreCodesOf-set old texts coords c.loop-place.codes i c.loop-place.invariant.codes) more
          (omega (arith, length-map dims coord_of_value, length-set old i texts, length-take-le number c.args.values.now c.requires.width)) (omega arith) of;
      valid = are_codes-more new c.loop-place.codes i code
          (are_codes-set old texts c.loop-place.codes i c.loop-place.invariant.valid) more (omega arith) valid;
      texts = AddsTextsBelow-more i dims c.args.dictionaries.now old texts room added c.loop-place.invariant.texts;
      dictionaries = λ all.
          All-set IsDictionary old i texts c.in_ok-codes.ensures.dictionary (c.loop-place.invariant.dictionaries all);
    }
