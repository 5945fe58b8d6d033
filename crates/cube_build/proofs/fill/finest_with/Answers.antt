use Rattle.std.proofs.Common.{◌≡◌, ◌∙◌, List, [], ap, length, map, rules, subst, subst₂, sym}
use Rattle.std.proofs.lemmas.List.{nil_from_length}
use Rattle.std.proofs.lemmas.Result.{IfOk-weaker}
use Rattle.cube_core.specs.Layout.{IsSchema, Layout}
use Rattle.cube_core.specs.declared.fact.Fact.{Fact}
use Rattle.cube_core.proofs.TextSchemaLaws.{cube_schema-none}
use Rattle.cube_cells.specs.Fill.{IsCubeOfAll}
use Rattle.cube_ledger.specs.Ledger.{AllFit, all_facts}
use Rattle.cube_build.specs.Builder.{HasFacts}
use Rattle.cube_build.proofs.FactLaws.{HasFacts-plain}
use Rattle.cube_build.proofs.fill.finest_with.Given.{Over}
use Rattle.cube_build.proofs.fill.finest_with.Goals.{After-deref}
use Rattle.cube_build.proofs.fill.finest_with.Goals as goal

-- the facts are those of the books, and no text of them is counted
facts : (g : Over) (c : After-deref g) → map (λ fact. fact.now) c.deref.result.now ≡ all_facts c.args.ledger.now.accounts
facts g c = ap (map (λ fact. fact.now)) c.deref.ensures.value ∙ c.in_ok-facts.ensures.facts

none : (g : Over) (c : After-deref g) → c.args.ledger.now.schema.text_places ≡ []
none g c =
    let empty : length c.text_places.result.now ≡ 0 = search rules in
    ap (λ (s : Layout). s.text_places) (sym c.schema-schema.ensures.value) ∙ sym c.text_places.ensures.value
    ∙ nil_from_length c.text_places.result.now empty

pub finest_of-requires-clause-fit : goal.finest_of-requires-clause-fit
finest_of-requires-clause-fit g c = λ lifetimes live.
    rw (facts g c)
    (subst (λ (s : Layout). AllFit s (all_facts c.args.ledger.now.accounts))
    (sym (c.requires.schema ∙ cube_schema-none c.args.ledger.now.schema (none g c))) c.in_ok-facts.ensures.fit)

pub returns-then-is_empty-clause-has : goal.returns-then-is_empty-clause-has
returns-then-is_empty-clause-has g c =
    let at = (goal.at.returns-then-is_empty-clause-has g c).After-deref in
    IfOk-weaker c.finest_of.result _ _ (λ finest all_here.
    let all = subst (λ (fs : List Fact). IsCubeOfAll fs finest) (facts g at) all_here in
    HasFacts-plain c.args.ledger.now.schema (all_facts c.args.ledger.now.accounts) finest
    (subst IsSchema c.schema-schema.ensures.value c.text_places.ensures.schema) (none g at) c.in_ok-facts.ensures.fit
    (record { cells = all.cells; facts_are = all.facts_are })) c.finest_of.ensures.facts

pub returns-clause-has : goal.returns-clause-has
returns-clause-has g c =
    IfOk-weaker c.finest_of_texts.result _ _ (λ finest has.
    subst₂ (λ (s : Layout) (fs : List Fact). HasFacts s fs finest) c.schema-schema.ensures.value
    (ap (map (λ fact. fact.now)) c.deref-2.ensures.value ∙ c.in_ok-facts.ensures.facts) has)
    c.finest_of_texts.ensures.has
