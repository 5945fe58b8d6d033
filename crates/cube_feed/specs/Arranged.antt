-- The columns of a feed behind the dimensions, by what their measures are (this project's choice).
use Rattle.std.specs.Prelude.{ℕ, Bool, not, List}
use Rattle.cube_core.specs.GroupingSet.{is_among}
use Rattle.cube_core.specs.TextPlaces.{at_places, beside_places}
use Rattle.cube_feed.specs.declared.arranged.MeasureKind.{MeasureKind}
use Rattle.cube_feed.specs.declared.arranged.MeasureKind.TheVariants.{Text, Number}

-- whether the column at a place behind the dimensions has measures of a kind, where texts stand at these places
abbrev pub is_of : MeasureKind → ℕ → List ℕ → Bool
is_of Text place text_places = is_among place text_places
is_of Number place text_places = not (is_among place text_places)

-- those elements of a list that stand in columns of a kind, where texts stand at these places; the first element stands
-- at a place that is given
abbrev pub elements_of : {A : Type 0} → MeasureKind → List ℕ → ℕ → List A → List A
elements_of Text text_places first xs = at_places text_places first xs
elements_of Number text_places first xs = beside_places text_places first xs
