use Rattle.std.proofs.Common.{◌≡◌, List, sym, subst}
use Rattle.std.specs.Prelude.{sum_by}
use Rattle.cube_core.specs.Answer.{IsSum}
use Rattle.cube_core.specs.declared.key.Row.{Row}
use Rattle.cube_laws.specs.Cells.{all_counted, answer_at, count_at}
use Rattle.cube_laws.specs.Rollup.{numbers_at}
use Rattle.cube_laws.proofs.DrilledLaws.{rows_below-unique}
use Rattle.cube_laws.proofs.RollupLaws.{CountAll-under, Count-under, Sum-under}
use Rattle.cube_laws.proofs.rollup.drilled_answers_add_up.Goals as goal

pub returns : goal.returns
returns c = record {
  counts_of_facts = λ s facts rows drilled row dimension place is some at_place.
      subst (λ (below : List Row). count_at place row ≡ sum_by (count_at place) below)
      (sym (rows_below-unique s (all_counted s facts) rows drilled row.key dimension is.are_rows some))
      (CountAll-under s facts rows row dimension place is at_place);
  counts_of_values = λ s facts rows drilled row dimension place m is some at_place.
      subst (λ (below : List Row). count_at place row ≡ sum_by (count_at place) below)
      (sym (rows_below-unique s (all_counted s facts) rows drilled row.key dimension is.are_rows some))
      (Count-under s facts rows row dimension place is m at_place);
  sums = λ s facts rows drilled row dimension place m is some at_place.
      subst (λ (below : List Row). IsSum (numbers_at place below) (answer_at place row))
      (sym (rows_below-unique s (all_counted s facts) rows drilled row.key dimension is.are_rows some))
      (Sum-under s facts rows row dimension place is m at_place);
}
