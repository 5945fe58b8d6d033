use Rattle.std.proofs.Common.{◌≡◌, ◌↔◌, ◌≤ℤ◌, ℕ, ℤ, false, true, List, ap, ◌∙◌, length}
use Rattle.cube_core.specs.Answer.{IsAnswer, IsDistinctCount, IsGreatest, IsLeast, IsMean, IsPercentile, IsSum}
use Rattle.cube_core.specs.Answer.{IsSumOfSquares, IsVarianceAnswer, values_held}
use Rattle.cube_core.specs.Group.{values_of}
use Rattle.cube_core.specs.declared.aggregate.Agg.TheVariants as agg
use Rattle.cube_core.specs.declared.aggregate.Answer.TheVariants as answer
use Rattle.cube_core.specs.declared.fact.Fact.{Fact}
use Rattle.cube_core.proofs.ReorderedLaws.{Reordered, Reordered-sym}
use Rattle.cube_laws.proofs.HeldLaws.{AreHeld-order, AreValues-AreHeld}
use Rattle.cube_laws.proofs.RowOrderLaws.{IsBest-Reordered, IsDistinctCount-Reordered, IsMean-Reordered, IsPercentile-Reordered}
use Rattle.cube_laws.proofs.RowOrderLaws.{IsSum-Reordered, IsSumOfSquares-Reordered, IsVarianceAnswer-Reordered}
use Rattle.cube_laws.proofs.RowOrderLaws.{length-Reordered}
use Rattle.cube_laws.proofs.values.values_tell_each_answer_of_their_measure.Goals as goal

-- what is true of values, whatever their order, is true of a measure's values just where it is of those that are held
by_order : (P : List ℤ → Type 0) → ((values others : List ℤ) → Reordered values others → P values → P others)
    → (group : List Fact) (m : ℕ) (held : List (ℤ × ℕ)) → IsAnswer group (agg.Values m) (answer.Values held)
    → P (values_of m group) ↔ P (values_held held)
by_order P keeps group m held listed =
    let order : Reordered (values_held held) (values_of m group) =
    AreHeld-order (values_of m group) held (AreValues-AreHeld (values_of m group) held listed) in (
      keeps (values_of m group) (values_held held) (Reordered-sym order),
      keeps (values_held held) (values_of m group) order,
    )

pub returns : goal.returns
returns c = record {
  counts = λ group m held a listed. by_order (λ values. a ≡ answer.Count (length values))
      (λ values others order is. is ∙ ap answer.Count (length-Reordered order)) group m held listed;
  sums = λ group m held a listed. by_order (λ values. IsSum values a)
      (λ values others order is. IsSum-Reordered values others a order is) group m held listed;
  least = λ group m held a listed. by_order (λ values. IsLeast values a)
      (λ values others order is. IsBest-Reordered (λ m x. m ≤ℤ x) values others a order is) group m held listed;
  greatest = λ group m held a listed. by_order (λ values. IsGreatest values a)
      (λ values others order is. IsBest-Reordered (λ m x. x ≤ℤ m) values others a order is) group m held listed;
  means = λ group m held a listed. by_order (λ values. IsMean values a)
      (λ values others order is. IsMean-Reordered values others a order is) group m held listed;
  distinct_counts = λ group m held a listed. by_order (λ values. IsDistinctCount values a)
      (λ values others order is. IsDistinctCount-Reordered values others a order is) group m held listed;
  percentiles = λ group m units places held a listed. by_order (λ values. IsPercentile units places values a)
      (λ values others order is. IsPercentile-Reordered units places values others a order is) group m held listed;
  squares = λ group m held a listed. by_order (λ values. IsSumOfSquares values a)
      (λ values others order is. IsSumOfSquares-Reordered values others a order is) group m held listed;
  variances = λ group m held a listed. by_order (λ values. IsVarianceAnswer false values a)
      (λ values others order is. IsVarianceAnswer-Reordered false values others a order is) group m held listed;
  sample_variances = λ group m held a listed. by_order (λ values. IsVarianceAnswer true values a)
      (λ values others order is. IsVarianceAnswer-Reordered true values others a order is) group m held listed;
}
