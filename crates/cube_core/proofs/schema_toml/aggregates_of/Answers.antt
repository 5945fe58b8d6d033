use Rattle.std.proofs.Common.{◌≡◌, ◌++◌, get_or, arith}
use Rattle.std.proofs.Common.{Some, is_some, refl, sym, ap, ◌∙◌}
use Rattle.std.proofs.lemmas.Grind.{common_steps}
use Rattle.std.specs.List.{filter_map}
use Rattle.std.proofs.lemmas.List.{at_drop_all, append-nil}
use Rattle.cube_core.specs.SchemaDocument.{aggregate_spelled, are_spellings}
use Rattle.cube_core.proofs.ListLaws.{filter_map-more, list_all-more}
use Rattle.cube_core.proofs.schema_toml.aggregates_of.Goals as goal

pub loop-text-preserved : goal.loop-text-preserved
loop-text-preserved c =
    let spelled : Some c.in-Some.aggregate
    ≡ aggregate_spelled c.args.measures.now (get_or c.args.texts.now c.loop-text.text-index c.text-item.result) =
    sym c.in-Some.is ∙ c.aggregate_spelled.ensures
    ∙ ap (aggregate_spelled c.args.measures.now) (c.as_str.ensures.value ∙ c.text-item.is) in
    record {
      found = rw c.in_ok-push.ensures.items
          (filter_map-more _ c.args.texts.now c.loop-text.text-index c.text-item.result c.in-Some.aggregate
          c.loop-text.aggregates.items c.loop-text-test.true spelled
          ∙ c.loop-text.invariant.found);
      spelled = list_all-more _ c.args.texts.now c.loop-text.text-index c.text-item.result c.loop-text-test.true
          (sym (ap is_some spelled))
          ∙ c.loop-text.invariant.spelled;
    }

pub loop-text-init : goal.loop-text-init
loop-text-init c = record { found = rw c.in_ok-aggregates.ensures.items refl; spelled = refl }

pub returns : goal.returns
returns c = (
  sym (append-nil c.loop-text.aggregates.items)
      ∙ sym
      (at_drop_all (λ rest. c.loop-text.aggregates.items ++ filter_map (aggregate_spelled c.args.measures.now) rest)
      c.args.texts.now c.loop-text.text-index c.loop-text-test.false)
      ∙ c.loop-text.invariant.found,
  sym c.loop-text.invariant.spelled
      ∙ at_drop_all (are_spellings c.args.measures.now) c.args.texts.now c.loop-text.text-index c.loop-text-test.false,
)

pub returns-in_default : goal.returns-in_default
returns-in_default c = grind (arith, common_steps)
