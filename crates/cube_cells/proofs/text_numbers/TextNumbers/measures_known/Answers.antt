use Rattle.std.proofs.Common.{◌-◌, ◌<◌, ◌∙◌, None, arith, length, get_or, take, sym}
use Rattle.std.specs.Prelude.{Contains}
use Rattle.std.proofs.lemmas.List.{get_or-drop, length-drop, take_more}
use Rattle.cube_core.specs.TextPlaces.{last_values}
use Rattle.cube_cells.proofs.TextNumberLaws.{AddsNumbers-push, IfSome-texts_counted}
use Rattle.cube_cells.proofs.text_numbers.TextNumbers.measures_known.Goals as goal

pub number_known-requires : goal.number_known-requires
number_known-requires c =
    let fact = c.args.fact.now in
    let value = rw c.len.ensures at c.get-value.ensures
    ∙ sym (get_or-drop (length fact.dims - c.args.texts) fact.dims c.loop-place.place None) in
    rw value (IfSome-texts_counted (Contains c.args.self.now) c.args.texts fact c.loop-place.place c.requires.known)

pub loop-place-preserved : goal.loop-place-preserved
loop-place-preserved c =
    let fact = c.args.fact.now in
    let known = c.args.self.now in
    let values = last_values c.args.texts fact in
    let i = c.loop-place.place in
    let inside : i < length values = omega (arith, length-drop (length fact.dims - c.args.texts) fact.dims) in
    let value = rw c.len.ensures at c.get-value.ensures
    ∙ sym (get_or-drop (length fact.dims - c.args.texts) fact.dims i None) in
    record {
      numbers = rw (c.push.ensures.items, take_more values i None inside)
          (AddsNumbers-push known (take i values) fact.measures c.loop-place.measures.items (get_or values i None)
          c.number_known.result c.loop-place.invariant.numbers
          (IfSome-texts_counted (Contains known) c.args.texts fact i c.requires.known)
          (rw (← value) c.number_known.ensures));
      room = omega (arith, c.push.ensures.len, c.loop-place.invariant.room);
    }
