use Rattle.std.proofs.Common.{◌≡◌, ◌++◌, ◌∷◌, ℕ, [], map, take, zero-add, rules, ◌∙◌, sym, ap, arith}
use Rattle.std.proofs.lemmas.Grind.{common_steps}
use Rattle.std.specs.List.{range_with_len}
use Rattle.std.proofs.lemmas.List.FromFn.{map-range_with_len_more}
use Rattle.cube_core.specs.SchemaDocument.{mask_of_names}
use Rattle.cube_core.proofs.schema_toml.grouping.rollup_sets.Goals as goal

pub loop-first-preserved : goal.loop-first-preserved
loop-first-preserved c =
    let set_of_first : ℕ → ℕ = λ first. mask_of_names c.args.dimensions.now (take first c.args.dimensions.now) in
    let pushed : c.push.new.self.items ≡ c.loop-first.sets.items ++ c.mask_of_names.result ∷ [] = search rules in
    let set : c.mask_of_names.result ≡ set_of_first c.loop-first.first = search rules in
    pushed ∙ ap (λ sets. sets ++ c.mask_of_names.result ∷ []) c.loop-first.invariant
    ∙ ap (λ last. map set_of_first (range_with_len 0 c.loop-first.first) ++ last ∷ []) set
    ∙ sym (map-range_with_len_more set_of_first 0 c.loop-first.first c.loop-first.first (zero-add c.loop-first.first))

pub returns : goal.returns
returns c = grind (arith, common_steps)

pub overflow_add-count : goal.overflow_add-count
overflow_add-count c = omega arith
