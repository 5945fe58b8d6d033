use Rattle.std.proofs.Common.{map}
use Rattle.std.proofs.lemmas.Result.{err_from_is_err_and}
use Rattle.csv.specs.Records.{fields_of}
use Rattle.cube_core.specs.FeedRecords.{stands_once}
use Rattle.cube_feed.specs.Columns.{name_of, named}
use Rattle.cube_feed.proofs.ColumnLaws.{names-all, names-third}
use Rattle.cube_feed.proofs.columns.places.Goals as goal

pub returns-in_err-dimensions-clause-line : goal.returns-in_err-dimensions-clause-line
returns-in_err-dimensions-clause-line c =
    let columns = c.args.columns.now in
    let p = err_from_is_err_and c.from_residual-in_err-dimensions.result c.from_residual-in_err-dimensions.ensures.1 in
    rw p.1 (λ stopped. names-third (stands_once (fields_of c.args.header.now)) (named columns.op) (named columns.id)
    (map name_of columns.dimensions) columns.measures
    (rw c.as_slice.ensures at (c.in_err-dimensions.ensures.line cc)))

pub returns-clause-once : goal.returns-clause-once
returns-clause-once c =
    let columns = c.args.columns.now in
    names-all (stands_once (fields_of c.args.header.now)) (named columns.op) (named columns.id)
    (map name_of columns.dimensions) columns.measures
    c.in_ok-op.ensures.once c.in_ok-id.ensures.once (rw c.as_slice.ensures at c.in_ok-dimensions.ensures.once)
    (rw c.as_slice-2.ensures at c.in_ok-measures.ensures.once)
