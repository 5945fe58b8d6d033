-- What the laws on the text of rows speak of: facts that can be counted (this project's choice:
-- counts of 64 bits, measures of 64).
use Rattle.std.specs.Prelude.{◌<◌, ◌^◌, ℕ, IsTrue, List, length, IfSome, FitsSigned}
use Rattle.std.specs.Int.{w64}
use Rattle.std.specs.List.{AllByRecursion, list_all}
use Rattle.cube_core.specs.Layout.{Layout}
use Rattle.cube_core.specs.Sources.{SurviveTogether, items_of_sources}
use Rattle.cube_core.specs.Takes.{fits}
use Rattle.cube_core.specs.declared.fact.Fact.{Fact}

-- a fact's values of measures are numbers of 64 bits
abbrev pub HasSmallValues : Fact → Type 0
HasSmallValues fact = AllByRecursion (λ value. IfSome value (FitsSigned w64)) fact.measures

-- facts that can be counted and added up: fewer than 2 to the power 64 of them, with values of 64 bits
pub record AreCountable (facts : List Fact) : Type 0 where
  pub few : length facts < 2 ^ 64
  pub small : AllByRecursion HasSmallValues facts

-- facts that a schema's cube can print: each fits the schema, and they can be counted
pub record CanBePrinted (s : Layout) (facts : List Fact) : Type 0 where
  pub fit : IsTrue (list_all (fits s) facts)
  pub countable : AreCountable facts

-- whatever facts survive the feeds of these sources' bytes can be printed
abbrev pub CanPrintSurvivors : Layout → List (List ℕ) → Type 0
CanPrintSurvivors s sources =
    (facts : List Fact) → SurviveTogether s (items_of_sources s sources) facts → CanBePrinted s facts

-- so few sources that what survives them can be counted: fewer than 2 to the power 32
abbrev pub AreFewSources : List (List ℕ) → Type 0
AreFewSources sources = length sources < 2 ^ 32
