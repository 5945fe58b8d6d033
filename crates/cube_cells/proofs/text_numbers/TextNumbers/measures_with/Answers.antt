use Rattle.std.proofs.Common.{◌-◌, ◌<◌, ◌≤◌, ◌∙◌, None, arith, length, get_or, take, sym}
use Rattle.std.proofs.lemmas.List.{get_or-drop, length-drop, take_more}
use Rattle.cube_core.specs.TextPlaces.{last_values}
use Rattle.cube_cells.proofs.TextNumberLaws.{AddsNumbers-StandFirst, AddsNumbers-push, All-texts_counted, StandFirst-trans}
use Rattle.cube_cells.proofs.text_numbers.TextNumbers.measures_with.Goals as goal

pub loop-place-preserved : goal.loop-place-preserved
loop-place-preserved c =
    let fact = c.args.fact.now in
    let values = last_values c.args.texts fact in
    let i = c.loop-place.place in
    let old = c.loop-place.self in
    let new = c.number_with.new.self in
    let inside : i < length values = omega (arith, length-drop (length fact.dims - c.args.texts) fact.dims) in
    let value = rw c.len.ensures at c.get-value.ensures
    ∙ sym (get_or-drop (length fact.dims - c.args.texts) fact.dims i None) in
    record {
      numbers = rw (c.push.ensures.items, take_more values i None inside)
          (AddsNumbers-push new (take i values) fact.measures c.loop-place.measures.items (get_or values i None)
          c.in_ok-number.number (AddsNumbers-StandFirst old new (take i values) fact.measures c.loop-place.measures.items
          c.number_with.ensures.first c.loop-place.invariant.numbers) (rw (← value) c.in_ok-number.ensures.listed)
          (rw (← value) c.in_ok-number.ensures.number));
      room = omega (arith, c.push.ensures.len, c.loop-place.invariant.room);
      first = StandFirst-trans c.args.self.now old new c.loop-place.invariant.first c.number_with.ensures.first;
      dictionary = c.number_with.ensures.dictionary;
    }

pub returns-clause-listed : goal.returns-clause-listed
returns-clause-listed c =
    let fact = c.args.fact.now in
    let over : length (last_values c.args.texts fact) ≤ c.loop-place.place =
    omega (arith, length-drop (length fact.dims - c.args.texts) fact.dims) in
    All-texts_counted c.loop-place.self c.args.texts fact c.loop-place.place fact.measures c.loop-place.measures.items over
    c.loop-place.invariant.numbers
