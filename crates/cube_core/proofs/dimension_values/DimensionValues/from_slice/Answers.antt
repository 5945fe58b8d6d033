use Rattle.std.proofs.Common.{◌≡◌, ℕ, List, Option, Bor, map, option_map, ap, rules, ◌∙◌}
use Rattle.std.proofs.lemmas.Iterator.{YieldsList-from_slice, YieldsList-from_map_by}
use Rattle.std.proofs.lemmas.Iterator.Consumers.{map_from_collect}
use Rattle.std.proofs.lemmas.List.{map-id}
use Rattle.std.proofs.lemmas.Result.{IfOk-at_ok}
use Rattle.cube_core.proofs.dimension_values.DimensionValues.from_slice.Goals as goal

abbrev now : Option (Bor (List ℕ)) → Option (List ℕ)
now = option_map (λ text. text.now)

pub returns : goal.returns
returns c =
    let collected : map now c.in_ok-texts.texts.items ≡ map (λ value. value) c.args.values.now =
    IfOk-at_ok _ c.in_ok-texts.was (map_from_collect _ c.collect.ensures.ran
    (YieldsList-from_map_by _ now (λ value. value) (YieldsList-from_slice c.args.values.now cc) c.map.ensures.closure
    (λ x r q k. search rules))) in
    let texts : map now c.deref.result.now ≡ c.args.values.now =
    ap (map now) c.deref.ensures.value ∙ collected ∙ map-id c.args.values.now in
    rw (← texts) (search rules)
