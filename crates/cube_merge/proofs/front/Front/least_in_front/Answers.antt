use Rattle.std.proofs.Common.{◌≡◌, ◌∙◌, Some, rules, ap, get_or, length}
use Rattle.std.specs.declared.cmp.Ordering.TheVariants.{Less}
use Rattle.cube_core.specs.Order.{key_cmp}
use Rattle.cube_merge.specs.Front.{IsLeastIn}
use Rattle.cube_merge.specs.Merging.{nothing_left}
use Rattle.cube_merge.proofs.LeastLaws.{AreAbove-lower, IsLeastSoFar-front, at_place, is_lt-not}
use Rattle.cube_merge.proofs.front.Front.least_in_front.Goals as goal

pub returns-else-is_below-clause-least : goal.returns-else-is_below-clause-least
returns-else-is_below-clause-least g c =
    let inputs = c.args.inputs.now in
    let behind = c.args.self.now.behind.items in
    let place = c.in_ok-place.place in
    let row = c.in_ok-row.row.now in
    let least : IsLeastIn inputs behind (Some place) (length inputs) =
    rw c.as_slice.ensures.value at c.in_ok-place.ensures in
    let is : c.index-inputs-place.result.row ≡ Some row = search rules in
    let there : (get_or inputs place nothing_left).row ≡ Some row =
    ap (λ x. x.row) (at_place inputs place c.index-inputs-place.result least.0 c.index-inputs-place.is) ∙ is in
    let under : key_cmp c.args.self.now.bound row.key ≡ Less → ⊥ =
    is_lt-not (key_cmp c.args.self.now.bound row.key) (search rules) in
    IsLeastSoFar-front inputs behind place (length inputs) row least there
    (AreAbove-lower inputs behind row.key c.args.self.now.bound under c.requires)

pub returns-else-is_below-clause-front : goal.returns-else-is_below-clause-front
returns-else-is_below-clause-front g c =
    let inputs = c.args.inputs.now in
    let behind = c.args.self.now.behind.items in
    let place = c.in_ok-place.place in
    let row = c.in_ok-row.row.now in
    let least : IsLeastIn inputs behind (Some place) (length inputs) =
    rw c.as_slice.ensures.value at c.in_ok-place.ensures in
    let is : c.index-inputs-place.result.row ≡ Some row = search rules in
    let there : (get_or inputs place nothing_left).row ≡ Some row =
    ap (λ x. x.row) (at_place inputs place c.index-inputs-place.result least.0 c.index-inputs-place.is) ∙ is in
    let under : key_cmp c.args.self.now.bound row.key ≡ Less → ⊥ =
    is_lt-not (key_cmp c.args.self.now.bound row.key) (search rules) in (
      row,
      there,
      AreAbove-lower inputs behind row.key c.args.self.now.bound under c.requires,
    )
