use Rattle.std.proofs.Common.{◌≡◌, [], ◌∷◌, ◌++◌, get_or, Some, is_some, rules, refl, sym, ap}
use Rattle.std.proofs.Common.{◌∙◌, arith}
use Rattle.std.specs.List.{filter_map, list_all}
use Rattle.std.proofs.lemmas.Grind.{common_steps}
use Rattle.std.proofs.lemmas.List.{at_drop_all, append-nil}
use Rattle.toml.specs.View.{table_view}
use Rattle.cube_core.specs.FeedDocument.{measure_column}
use Rattle.cube_core.proofs.ListLaws.{filter_map-more, list_all-more}
use Rattle.cube_core.proofs.schema_toml.feed_table.measure_columns.Goals as goal

pub loop-name-preserved : goal.loop-name-preserved
loop-name-preserved c =
    let h = measure_column (table_view c.args.columns.now) in
    let here : Some c.in-Some.column.now ≡ measure_column (table_view c.args.columns.now) c.name-item.result =
    search rules in
    let is : Some c.in-Some.column.now ≡ h (get_or c.args.names.now c.loop-name.name-index c.name-item.result) =
    here ∙ ap h c.name-item.is in
    let pushed : c.push.new.self.items ≡ c.loop-name.read.items ++ c.in-Some.column.now ∷ [] = search rules in
    record {
      found = rw pushed (filter_map-more h c.args.names.now c.loop-name.name-index c.name-item.result
          c.in-Some.column.now c.loop-name.read.items c.loop-name-test.true is ∙ c.loop-name.invariant.found);
      right = list_all-more (λ name. is_some (h name)) c.args.names.now c.loop-name.name-index c.name-item.result
          c.loop-name-test.true (sym (ap is_some is)) ∙ c.loop-name.invariant.right;
    }

pub loop-name-init : goal.loop-name-init
loop-name-init c = record { found = rw c.in_ok-read.ensures.items refl; right = refl }

pub returns : goal.returns
returns c =
    let h = measure_column (table_view c.args.columns.now) in (
      sym (append-nil c.loop-name.read.items)
          ∙ sym (at_drop_all (λ rest. c.loop-name.read.items ++ filter_map h rest) c.args.names.now
          c.loop-name.name-index c.loop-name-test.false)
          ∙ c.loop-name.invariant.found,
      sym c.loop-name.invariant.right
          ∙ at_drop_all (list_all (λ name. is_some (h name))) c.args.names.now c.loop-name.name-index
          c.loop-name-test.false,
    )

pub returns-in_default : goal.returns-in_default
returns-in_default c = grind (arith, common_steps)
