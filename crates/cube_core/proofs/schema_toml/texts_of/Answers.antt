use Rattle.std.proofs.Common.{◌≡◌, ◌++◌, ◌∷◌, [], drop, Some, option_map, rules, ◌∙◌, sym, ap}
use Rattle.std.proofs.lemmas.Iterator.Adapters.{option_map_id}
use Rattle.std.proofs.lemmas.List.{at_drop_all, append-nil}
use Rattle.toml.specs.Data.{as_str}
use Rattle.toml.specs.View.{view, items_view}
use Rattle.cube_core.specs.FeedDocument.{texts_of}
use Rattle.cube_core.proofs.SchemaReadingLaws.{texts_of-more, texts_of-stop}
use Rattle.cube_core.proofs.schema_toml.texts_of.Goals as goal

pub loop-value-preserved : goal.loop-value-preserved
loop-value-preserved c =
    let pushed : c.push.new.self.items ≡ c.loop-value.texts.items ++ c.in-Some.text.now ∷ [] = search rules in
    rw pushed
    (texts_of-more c.args.values.now c.loop-value.value-index c.value-item.result c.in-Some.text.now
    c.loop-value.texts.items c.loop-value-test.true (c.in-Some.ensures ∙ ap (λ v. as_str (view v)) c.value-item.is)
    ∙ c.loop-value.invariant)

pub returns-in_default : goal.returns-in_default
returns-in_default c =
    sym (texts_of-stop c.args.values.now c.loop-value.value-index c.value-item.result c.loop-value.texts.items
    c.loop-value-test.true (c.in_default.ensures {u = tt} ∙ ap (λ v. as_str (view v)) c.value-item.is))
    ∙ c.loop-value.invariant

pub loop-value-init : goal.loop-value-init
loop-value-init c = rw c.in_ok-texts.ensures.items (option_map_id (texts_of (items_view c.args.values.now)))

pub returns : goal.returns
returns c =
    let none : items_view (drop c.loop-value.value-index c.args.values.now) ≡ items_view [] =
    at_drop_all items_view c.args.values.now c.loop-value.value-index c.loop-value-test.false in
    sym (ap Some (append-nil c.loop-value.texts.items))
    ∙ sym (ap (λ items. option_map (λ texts. c.loop-value.texts.items ++ texts) (texts_of items)) none)
    ∙ c.loop-value.invariant
