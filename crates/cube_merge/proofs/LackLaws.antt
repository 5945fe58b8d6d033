-- A merge that got its inputs isn't given up for its aggregates.
use Rattle.std.proofs.Common.{List, Option, map, inl, inr}
use Rattle.std.specs.List.{AllZip}
use Rattle.cube_core.specs.Layout.{Layout}
use Rattle.cube_core.specs.Text.{header_fields, line}
use Rattle.cube_core.specs.declared.aggregate.Agg.{Agg}
use Rattle.std.specs.Prelude.{ℕ}
use Rattle.cube_merge.specs.Faults.{FailsToOpenAll, InputsFail}
use Rattle.cube_merge.specs.Merging.{TookHeader, InputView}
use Rattle.cube_merge.specs.Source.{TellsLack}
use Rattle.cube_merge.specs.declared.fault.MergeFault.{MergeFault}
use Rattle.cube_merge.specs.declared.fault.MergeFault.TheVariants.{Memory, Aggregates, Input, Write}
use Rattle.cube_merge.proofs.CubesLaws.{taken-TookHeaders}

-- inputs that took their headers
pub tells-inputs : {R : Type 0} (remaining : R → Option (List ℕ)) (given wanted : Layout) (readers : List R)
    (inputs : List InputView) → AllZip (TookHeader remaining (line (header_fields given))) readers inputs
    → (old new : Option (List ℕ)) (aggs wanteds : List Agg) (fault : MergeFault)
    → InputsFail given wanted inputs fault old new → TellsLack aggs wanteds fault
tells-inputs remaining given wanted readers inputs taken old new aggs wanteds Memory fails = tt
tells-inputs remaining given wanted readers inputs taken old new aggs wanteds (Input fault input number) fails = tt
tells-inputs remaining given wanted readers inputs taken old new aggs wanteds (Write sent) fails = tt
tells-inputs remaining given wanted readers inputs taken old new aggs wanteds Aggregates fails =
    elim (fails (map (λ (i : InputView). i.left) inputs)
    (taken-TookHeaders remaining (line (header_fields given)) readers inputs taken)) [
      | inl start ↦ absurd start.1
      | inr stops ↦ absurd stops.why
    ]

-- inputs that couldn't
pub tells-open : (header : List ℕ) (texts : List (Option (List ℕ))) (aggs wanteds : List Agg) (fault : MergeFault)
    → FailsToOpenAll header texts fault → TellsLack aggs wanteds fault
tells-open header texts aggs wanteds Memory fails = tt
tells-open header texts aggs wanteds Aggregates fails = absurd fails
tells-open header texts aggs wanteds (Input fault input number) fails = tt
tells-open header texts aggs wanteds (Write sent) fails = tt
