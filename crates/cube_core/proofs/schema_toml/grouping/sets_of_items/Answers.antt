use Rattle.std.proofs.Common.{◌≡◌, ◌++◌, ◌∷◌, [], drop, Some, None, option_map, rules, ◌∙◌, sym, ap}
use Rattle.std.proofs.lemmas.Iterator.Adapters.{option_map_id}
use Rattle.std.proofs.lemmas.List.{at_drop_all, append-nil}
use Rattle.toml.specs.View.{view, items_view}
use Rattle.cube_core.specs.SchemaDocument.{set_of_item, sets_of_items}
use Rattle.cube_core.proofs.GroupingReadingLaws.{sets_of_items-more, sets_of_items-stop}
use Rattle.cube_core.proofs.schema_toml.grouping.sets_of_items.Goals as goal

pub loop-value-preserved : goal.loop-value-preserved
loop-value-preserved c =
    let pushed : c.push.new.self.items ≡ c.loop-value.sets.items ++ c.in-Some.set ∷ [] = search rules in
    let read : Some c.in-Some.set ≡ set_of_item c.args.dimensions.now (view c.value-item.result) = search rules in
    rw pushed
    (sets_of_items-more c.args.dimensions.now c.args.values.now c.loop-value.value-index c.value-item.result
    c.in-Some.set c.loop-value.sets.items c.loop-value-test.true
    (read ∙ ap (λ v. set_of_item c.args.dimensions.now (view v)) c.value-item.is)
    ∙ c.loop-value.invariant)

pub returns-in_default : goal.returns-in_default
returns-in_default c =
    let none : None ≡ set_of_item c.args.dimensions.now (view c.value-item.result) = search rules in
    sym (sets_of_items-stop c.args.dimensions.now c.args.values.now c.loop-value.value-index c.value-item.result
    c.loop-value.sets.items c.loop-value-test.true
    (none ∙ ap (λ v. set_of_item c.args.dimensions.now (view v)) c.value-item.is))
    ∙ c.loop-value.invariant

pub loop-value-init : goal.loop-value-init
loop-value-init c =
    rw c.in_ok-sets.ensures.items (option_map_id (sets_of_items c.args.dimensions.now (items_view c.args.values.now)))

pub returns : goal.returns
returns c =
    let none : items_view (drop c.loop-value.value-index c.args.values.now) ≡ items_view [] =
    at_drop_all items_view c.args.values.now c.loop-value.value-index c.loop-value-test.false in
    sym (ap Some (append-nil c.loop-value.sets.items))
    ∙ sym (ap
    (λ items. option_map (λ sets. c.loop-value.sets.items ++ sets) (sets_of_items c.args.dimensions.now items)) none)
    ∙ c.loop-value.invariant
