-- The cubes of the same facts.
use Rattle.std.proofs.Common.{◌≡◌, ℕ, List, IsPermutation, subst}
use Rattle.cube_core.specs.Arrival.{Arrivals, of_sources}
use Rattle.cube_core.specs.Cube.{AreRows}
use Rattle.cube_core.specs.Layout.{Layout}
use Rattle.cube_core.specs.Sources.{SurviveTogether}
use Rattle.cube_core.specs.declared.fact.Fact.{Fact}
use Rattle.cube_core.specs.declared.key.Row.{Row}
use Rattle.cube_laws.proofs.RowLaws.{AreRows-unique}
use Rattle.cube_laws.proofs.RowOrderLaws.{AreRows-IsPermutation}
use Rattle.cube_laws.proofs.SurvivorLaws.{SurviveTogether-IsPermutation}

pub AreRows-same : (s : Layout) (facts others : List Fact) (rows other_rows : List Row) → IsPermutation facts others
    → AreRows s facts rows → AreRows s others other_rows → rows ≡ other_rows
AreRows-same s facts others rows other_rows same are are_too =
    AreRows-unique s others rows other_rows (AreRows-IsPermutation s facts others rows same are) are_too

pub AreRows-arrivals : (s : Layout) (sources : ℕ) (arrivals others : Arrivals) (facts other_facts : List Fact)
    (rows other_rows : List Row) → of_sources sources arrivals ≡ of_sources sources others
    → SurviveTogether s (of_sources sources arrivals) facts → SurviveTogether s (of_sources sources others) other_facts
    → AreRows s facts rows → AreRows s other_facts other_rows → rows ≡ other_rows
AreRows-arrivals s sources arrivals others facts other_facts rows other_rows agree survive survive_too are are_too =
    AreRows-same s facts other_facts rows other_rows
    (SurviveTogether-IsPermutation s (of_sources sources others) facts other_facts
    (subst (λ feeds. SurviveTogether s feeds facts) agree survive) survive_too)
    are are_too
