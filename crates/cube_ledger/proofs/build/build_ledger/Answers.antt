use Rattle.std.proofs.Common.{◌≡◌, length, map, arith, ap}
use Rattle.std.proofs.lemmas.List.{length-map, length-replicate}
use Rattle.std.proofs.lemmas.Result.{err_from_is_err_and}
use Rattle.cube_ledger.proofs.BuildLaws.{HasBuilt-none, HasBuilt-more, Builds-all, ExplainsBuild-stops}
use Rattle.cube_ledger.proofs.build.build_ledger.Goals as goal

pub loop-reader-init : goal.loop-reader-init
loop-reader-init g c =
    let told : length (map g.R.Read.remaining c.args.readers.items) ≡ length c.args.readers.items =
    length-map c.args.readers.items g.R.Read.remaining in
    let counted = simp length-replicate at (ap length c.in-Ok.ensures.accounts) in
    let all : length c.in-Ok.ledger.accounts ≡ length (map g.R.Read.remaining c.args.readers.items) =
    omega (arith, counted, told, c.args.readers.ok.0) in (
      tt,
      tt,
      HasBuilt-none _ _ _ _ (ap (map g.R.Read.remaining) c.into_iter-reader-iterator.ensures.into_iter_gives.0)
          c.in-Ok.ensures.schema all c.in-Ok.ensures.stands,
      omega (arith, c.into_iter-reader-iterator.ensures.into_iter_gives.1),
    )

pub loop-reader-preserved : goal.loop-reader-preserved
loop-reader-preserved g c = (
  tt,
  tt,
  HasBuilt-more _ _ _ _ _ _ _ _
      (ap (map g.R.Read.remaining) c.in-Some.ensures.steps.0) c.in_ok-take_feed.ensures.ok c.loop-reader.invariant.2,
  omega (arith, c.in-Some.ensures.steps.1, c.loop-reader.invariant.3),
)

pub returns-in_err-take_feed-clause-err : goal.returns-in_err-take_feed-clause-err
returns-in_err-take_feed-clause-err g c =
    let p = err_from_is_err_and c.from_residual.result c.from_residual.ensures.1 in
    rw (p.1, p.2)
    (ExplainsBuild-stops _ _ _ _ _ _ _ _
    (ap (map g.R.Read.remaining) c.in-Some.ensures.steps.0) c.loop-reader.invariant.2 c.in_err-take_feed.ensures.err)

pub returns-clause-ok : goal.returns-clause-ok
returns-clause-ok g c =
    let told : length (map g.R.Read.remaining c.args.readers.items) ≡ length c.args.readers.items =
    length-map c.args.readers.items g.R.Read.remaining in
    Builds-all _ _ _ c.loop-reader.source _
    (omega (
      arith,
      told,
      c.args.readers.ok.0,
      c.in-None.ensures.steps.0,
      c.loop-reader.invariant.3,
    )) c.loop-reader.invariant.2
