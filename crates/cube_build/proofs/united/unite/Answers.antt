use Rattle.std.proofs.Common.{◌≡◌, ◌∙◌, ap, subst, sym}
use Rattle.cube_core.specs.Layout.{Layout, cube_schema}
use Rattle.cube_ledger.specs.Interest.{ledger_of_interest}
use Rattle.cube_ledger.specs.Ledger.{LedgerView, all_facts}
use Rattle.cube_build.specs.Builder.{HasFacts}
use Rattle.cube_build.specs.Sharded.{HasRefusals, united}
use Rattle.cube_build.proofs.UnitedLaws.{united-are, united-counts}
use Rattle.cube_build.proofs.united.unite.Given.{Over}
use Rattle.cube_build.proofs.united.unite.Goals.{In_ok-cube-2}
use Rattle.cube_build.proofs.united.unite.Goals as goal

-- the refusals were noted under the schema
has : (g : Over) (c : In_ok-cube-2 g) → HasRefusals c.args.apart.schema c.in_ok-refused.ensures.0 c.in_ok-refused.refused
has g c = subst (λ (s : Layout). HasRefusals s c.in_ok-refused.ensures.0 c.in_ok-refused.refused) (sym c.requires.schema)
    c.in_ok-refused.ensures.2

schema : (g : Over) (c : In_ok-cube-2 g) → c.in_ok-cube-2.cube.schema ≡ cube_schema c.args.apart.schema
schema g c =
    c.in_ok-cube-2.ensures.schema ∙ c.in_ok-cube.ensures.new.schema_is ∙ ap cube_schema c.schema.ensures.value
    ∙ ap (λ (l : LedgerView). cube_schema l.schema) c.keep.ensures

-- the cube has the facts of interest
facts : (g : Over) (c : In_ok-cube-2 g) →
    HasFacts c.args.apart.schema (all_facts (ledger_of_interest c.args.conditions.now c.args.apart).accounts)
    c.in_ok-cube-2.cube
facts g c = subst (λ (l : LedgerView). HasFacts l.schema (all_facts l.accounts) c.in_ok-cube-2.cube) c.keep.ensures
    c.in_ok-cube-2.ensures.has

pub new-requires : goal.new-requires
new-requires g c =
    let at = (goal.at.new-requires g c).In_ok-cube-2 in
    united-counts c.args.conditions.now c.args.apart c.in_ok-refused.refused c.in_ok-refused.ensures.0
    c.uniting-trace.result.ledger c.in_ok-cube-2.cube (has g at)
    (c.uniting-trace.ensures ∙ ap (λ (l : LedgerView). united l c.in_ok-refused.refused) c.keep.ensures)
    (schema g at) (facts g at)

pub returns : goal.returns
returns g c =
    let at = (goal.at.returns g c).In_ok-cube-2 in
    united-are c.args.conditions.now c.args.apart c.in_ok-refused.refused c.in_ok-refused.ensures.0
    c.uniting-trace.result.ledger c.in_ok-cube-2.cube c.new.result c.in_ok-refused.ensures.1 (has g at)
    (c.uniting-trace.ensures ∙ ap (λ (l : LedgerView). united l c.in_ok-refused.refused) c.keep.ensures)
    c.new.ensures.ledger c.new.ensures.cube c.in_ok-cube-2.ensures.sets (schema g at) (facts g at)
