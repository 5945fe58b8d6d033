use Rattle.std.proofs.Common.{sym, ◌∙◌}
use Rattle.cube_store.proofs.ChainLaws as laws
use Rattle.cube_store.proofs.row.source_at.Goals as goal

pub returns-in_default-clause-none : goal.returns-in_default-clause-none
returns-in_default-clause-none c = λ change source is.
    c.in_default.ensures.none change (laws.head_of c.args.form c.args.number change c.args.row.now is)

pub returns-clause-some : goal.returns-clause-some
returns-clause-some c =
    laws.row_from_head c.args.form c.args.number _ c.args.row.now
    (sym c.len.ensures ∙ c.if-len-value_count.false ∙ c.value_count.ensures) c.in-Some.ensures.some
