use Rattle.std.proofs.Common.{rules, ℕ, ◌∙◌, ◌<◌, ◌≡◌, List, length, get_or, []}
use Rattle.std.proofs.lemmas.List.{get_or_default}
use Rattle.std.proofs.lemmas.Result.{IfOk-weaker}
use Rattle.cube_core.specs.Group.{values_of}
use Rattle.cube_core.specs.declared.fact.Fact.{Fact}
use Rattle.cube_values.specs.Bag.{Bag}
use Rattle.cube_cells.specs.Tally.{Tally, IsBagOf, IsTallyOf}
use Rattle.cube_cells.proofs.cell.Cell.try_answer.Goals as goal

-- the bag that stands at a measure is that of the measure's values
IsBagOf-read : (facts : List Fact) (t : Tally) (m : ℕ) (bag : Bag) → IsTallyOf facts t → m < length t.bags
    → bag ≡ get_or t.bags m bag → IsBagOf (values_of m facts) bag
IsBagOf-read facts t m bag is inside read = rw (read ∙ get_or_default t.bags m bag [] inside) (is.bags m inside)

pub returns-in-CountDistinct : goal.returns-in-CountDistinct
returns-in-CountDistinct g c =
    let measure = c.in-CountDistinct.measure in
    let t : Tally = record { facts = c.self.inside.facts; bags = c.self.inside.measures.items } in
    let inside : measure < length t.bags = search rules in
    IfOk-weaker c.different.result _ _ (λ answer is_count. λ facts is.
    let bag = IsBagOf-read facts t measure c.index.result.now (rw (← c.self.view_is) at is) inside c.index.ensures in
    rw c.in-CountDistinct.is (is_count (values_of measure facts) bag)) c.different.ensures

pub returns-in-Values : goal.returns-in-Values
returns-in-Values g c =
    let measure = c.in-Values.measure in
    let read = c.index-in-Values in
    let t : Tally = record { facts = c.self.inside.facts; bags = c.self.inside.measures.items } in
    let inside : measure < length t.bags = search rules in
    IfOk-weaker c.in_order.result _ _ (λ answer are. λ facts is.
    let bag = IsBagOf-read facts t measure read.result.now (rw (← c.self.view_is) at is) inside read.ensures in
    rw c.in-Values.is (are (values_of measure facts) bag)) c.in_order.ensures
