use Rattle.std.proofs.Common.{◌≡◌, List, map, ℕ}
use Rattle.std.specs.Prelude.{All, Contains, Err, IfOk, OnOk, Ok, Result}
use Rattle.cube_core.specs.declared.fact.Fact.{Fact}
use Rattle.cube_cells.specs.TextNumbers.{AreCountedFacts, number_in}
use Rattle.cube_core.specs.TextPlaces.{counted_by, texts_counted}
use Rattle.cube_cells.proofs.TextNumberLaws.{AreCountedFacts-AreCountedIn}
use Rattle.cube_cells.proofs.text_numbers.TextNumbers.all_counted.Goals as goal

-- where there was room for all, they are counted facts
IfOk-AreCountedFacts : {X E : Type 0} (items : X → List Fact) (known : List (List ℕ)) (texts : ℕ) (facts : List Fact)
    (result : Result X E) → IfOk result (λ x. items x ≡ map (counted_by (number_in known) texts) facts)
    → OnOk result (All (Contains known) (texts_counted texts facts))
    → IfOk result (λ x. AreCountedFacts texts facts (items x))
IfOk-AreCountedFacts items known texts facts (Ok x) are listed =
    AreCountedFacts-AreCountedIn known texts facts (items x) (record { listed = listed; are = are })
IfOk-AreCountedFacts items known texts facts (Err fault) are listed = tt

pub returns : goal.returns
returns c =
    IfOk-AreCountedFacts (λ counted. counted.items) c.each_counted.new.self c.args.texts
    (map (λ r. r.now) c.args.facts.now) c.each_counted.result c.each_counted.ensures.counted
    c.each_counted.ensures.listed
