use Rattle.std.proofs.Common.{List, map}
use Rattle.std.proofs.lemmas.Result.{IfOk-weaker}
use Rattle.cube_core.specs.Layout.{cube_schema}
use Rattle.cube_core.specs.declared.fact.Fact.{Fact}
use Rattle.cube_cells.specs.Gathered.{HasGathered}
use Rattle.cube_cells.proofs.Filling.GatheredLaws.{AreShares-made}
use Rattle.cube_cells.proofs.cube.gathered.gathered_in_shares.Goals as goal

pub merged_shares-requires-clause-shares : goal.merged_shares-requires-clause-shares
merged_shares-requires-clause-shares g c =
    let schema = cube_schema c.args.schema.now in
    let facts : List Fact = map (λ fact. fact.now) c.args.facts.now in (
      facts,
      AreShares-made schema facts c.args.shares c.in_ok-all_made.field-0.items
          c.in_ok-made.made.items c.in_ok-all_made.ensures c.in_ok-made.ensures,
    )

pub returns : goal.returns
returns g c =
    let schema = cube_schema c.args.schema.now in
    let facts : List Fact = map (λ fact. fact.now) c.args.facts.now in
    IfOk-weaker c.merged_shares.result _ (HasGathered schema facts)
    (λ cube has. has facts (AreShares-made schema facts c.args.shares c.in_ok-all_made.field-0.items
    c.in_ok-made.made.items c.in_ok-all_made.ensures c.in_ok-made.ensures)) c.merged_shares.ensures
