use Rattle.std.proofs.Common.{◌≡◌, ℕ, ◌+◌, ◌<◌, ◌≤◌, true, ◌++◌, ◌∷◌, [], List, length, drop, get_or, Option, Some}
use Rattle.std.proofs.Common.{refl, sym, ap, ◌∙◌, append_assoc, rules}
use Rattle.std.specs.Option.{is_some}
use Rattle.std.specs.List.{list_all, filter_map}
use Rattle.std.proofs.lemmas.List.{at_drop_more, at_drop_all, append-nil}
use Rattle.cube_core.specs.declared.key.Coord.{Coord}
use Rattle.cube_core.proofs.pattern.Pattern.cell.Goals as goal

-- what f says of the coordinates from a place on, where one is wanted there
at_wanted : {Y : Type 0} (f : List (Option Coord) → Y) (wanted : List (Option Coord)) (place : ℕ) (x : Coord)
    → place < length wanted → Some x ≡ get_or wanted place (Some x)
    → f (drop place wanted) ≡ f (Some x ∷ drop (place + 1) wanted)
at_wanted f wanted place x within is = at_drop_more f wanted place (Some x) within
    ∙ ap (λ (o : Option Coord). f (o ∷ drop (place + 1) wanted)) (sym is)

pub loop-wanted-preserved : goal.loop-wanted-preserved
loop-wanted-preserved c =
    let wanted : List (Option Coord) = c.args.self.now in
    let place : ℕ = c.loop-wanted.wanted-index in
    let x : Coord = c.in_ok-copy_coord.field-0 in
    let within : place < length wanted = search rules in
    let is : Some x ≡ get_or wanted place (Some x) = search rules in
    let items : c.push.new.self.items ≡ c.loop-wanted.coords.items ++ x ∷ [] = search rules in
    let named : filter_map (λ w. w) (drop place wanted) ≡ x ∷ filter_map (λ w. w) (drop (place + 1) wanted) =
    at_wanted (filter_map (λ w. w)) wanted place x within is in
    record {
      found = rw (items, append_assoc, ← named) c.loop-wanted.invariant.found;
      closed = sym (at_wanted (list_all is_some) wanted place x within is) ∙ c.loop-wanted.invariant.closed;
    }

pub returns : goal.returns
returns c =
    let wanted : List (Option Coord) = c.args.self.now in
    let place : ℕ = c.loop-wanted.wanted-index in
    let copies : List Coord = c.loop-wanted.coords.items in
    let past : length wanted ≤ place = search rules in
    let closed : list_all is_some wanted ≡ true =
    sym c.loop-wanted.invariant.closed ∙ at_drop_all (list_all is_some) wanted place past in
    let found : filter_map (λ w. w) wanted ≡ copies =
    sym c.loop-wanted.invariant.found ∙ ap (λ (rest : List Coord). copies ++ rest)
    (at_drop_all (filter_map (λ w. w)) wanted place past) ∙ append-nil copies in
    rw (c.from_vec.ensures, closed, found) refl
