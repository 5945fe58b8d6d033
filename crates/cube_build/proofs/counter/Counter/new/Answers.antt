use Rattle.std.proofs.Common.{◌∙◌, ap, refl, rules, sym}
use Rattle.cube_ledger.specs.Ledger.{LedgerView}
use Rattle.cube_build.proofs.CountingLaws.{counter-new}
use Rattle.cube_build.proofs.counter.Counter.new.Goals as goal

pub invariant_of-result : goal.invariant_of-result
invariant_of-result g c =
    counter-new c.args.conditions.now c.in_ok-refused.refused c.of-trace.result.ledger c.args.sources
    c.in_ok-weights.weights.items c.args.schema.now c.in_ok-cube.cube c.of-trace.ensures
    c.in_ok-refused.ensures.accounts (search rules) (sym c.in_ok-refused.ensures.schema)
    c.requires.plain c.in_ok-cube.ensures.new c.in_ok-cube.ensures.cube

pub returns : goal.returns
returns g c = record {
  conditions_are = refl;
  schema = ap (λ (l : LedgerView). l.schema) c.of-trace.ensures ∙ c.in_ok-refused.ensures.schema;
  accounts = ap (λ (l : LedgerView). l.accounts) c.of-trace.ensures ∙ c.in_ok-refused.ensures.accounts;
}
