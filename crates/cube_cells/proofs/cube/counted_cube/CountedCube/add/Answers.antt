use Rattle.std.proofs.Common.{◌≡◌, ◌∙◌, List, [], Option, ap, length, subst, sym, true, ℕ, ℤ}
use Rattle.std.proofs.lemmas.List.{append-nil}
use Rattle.std.proofs.lemmas.Result.{on_err_weaker, on_ok_weaker}
use Rattle.cube_core.specs.Takes.{fits}
use Rattle.cube_core.specs.declared.fact.Fact.{Fact}
use Rattle.cube_cells.specs.CountedCube.{first_fact, fits_counted}
use Rattle.cube_cells.specs.Cube.{AddsFact}
use Rattle.cube_cells.specs.TextNumbers.{number_in}
use Rattle.cube_core.specs.TextPlaces.{counted_by}
use Rattle.cube_cells.proofs.Cells.WalkLaws.{OnErr-always}
use Rattle.cube_cells.proofs.CountedCubeLaws.{HasCounted-AddsFact, HasCounted-AddsFact_alone, HasCounted-SameCells}
use Rattle.cube_cells.proofs.CountedCubeLaws.{HasCounted-StandFirst, counted_by-first_fact, fits-counted_by}
use Rattle.cube_cells.proofs.cube.counted_cube.CountedCube.add.Goals.{After-self, After-as_slice}
use Rattle.cube_cells.proofs.cube.counted_cube.CountedCube.add.Goals as goal

fit : (c : After-self) → fits_counted c.self.inside.texts c.self.inside.cube.schema c.args.fact.now ≡ true
fit c = rw (← c.self.view_is) at c.requires.fits

-- ---- no text is counted
pub returns-then-self-eq0-clause-added : goal.returns-then-self-eq0-clause-added
returns-then-self-eq0-clause-added c =
    let fits = fit (goal.at.returns-then-self-eq0-clause-added c).After-self in
    on_ok_weaker c.add.result (λ adds. λ facts has.
    HasCounted-AddsFact_alone c.args.fact.now facts c.self.inside.texts c.self.inside.numbers c.self.inside.cube
    c.add.new.self c.if-self-eq0.true fits adds (rw (← c.self.view_is) at has)) c.add.ensures.added

pub returns-then-self-eq0-clause-err_has : goal.returns-then-self-eq0-clause-err_has
returns-then-self-eq0-clause-err_has c = on_err_weaker c.add.result (λ same. λ facts has.
    HasCounted-SameCells facts c.self.inside.texts c.self.inside.numbers c.self.inside.cube c.add.new.self same
    (rw (← c.self.view_is) at has)) c.add.ensures.err

pub returns-then-self-eq0-clause-first : goal.returns-then-self-eq0-clause-first
returns-then-self-eq0-clause-first c =
    rw (← c.self.view_is) (record { more = []; are = sym (append-nil c.self.inside.numbers) })

-- ---- no room for a text
pub returns-in_err-measures-clause-err_has : goal.returns-in_err-measures-clause-err_has
returns-in_err-measures-clause-err_has c = OnErr-always c.from_residual.result (λ facts has.
    HasCounted-StandFirst facts c.self.inside.texts c.self.inside.numbers c.measures_with.new.self c.self.inside.cube
    c.measures_with.ensures.first (rw (← c.self.view_is) at has))

-- ---- each text has a number
-- the first values of the fact, and the measures with the numbers of its texts, are the fact as it is counted
is_counted : (c : After-as_slice)
    → first_fact (length c.self.inside.cube.schema.dimensions) c.args.fact.now.dims c.as_slice.result.now
    ≡ counted_by (number_in c.measures_with.new.self) c.self.inside.texts c.args.fact.now
is_counted c =
    ap (λ (measures : List (Option ℤ)).
    first_fact (length c.self.inside.cube.schema.dimensions) c.args.fact.now.dims measures)
    (c.as_slice.ensures.value ∙ c.in_ok-measures.ensures.measures)
    ∙ counted_by-first_fact (number_in c.measures_with.new.self) c.self.inside.texts c.self.inside.cube.schema
    c.args.fact.now (rw (← c.self.view_is) at c.requires.fits)

pub add_values-requires-clause-fits : goal.add_values-requires-clause-fits
add_values-requires-clause-fits c =
    let at = goal.at.add_values-requires-clause-fits c in
    subst (λ (f : Fact). fits c.self.inside.cube.schema f ≡ true) (sym (is_counted at.After-as_slice))
    (fits-counted_by (number_in c.measures_with.new.self) c.self.inside.texts c.self.inside.cube.schema
    c.args.fact.now (fit at.After-self))

pub returns-clause-added : goal.returns-clause-added
returns-clause-added c =
    let at = goal.at.returns-clause-added c in
    let texts = c.self.inside.texts in
    let old = c.self.inside.cube in
    let new = c.add_values.new.self in
    on_ok_weaker c.add_values.result (λ adds. λ facts has.
    HasCounted-AddsFact c.args.fact.now facts texts c.measures_with.new.self old new (fit at.After-self)
    c.in_ok-measures.ensures.listed
    (subst (λ (f : Fact). AddsFact f old new) (is_counted at.After-as_slice) adds)
    (HasCounted-StandFirst facts texts c.self.inside.numbers c.measures_with.new.self old
    c.measures_with.ensures.first (rw (← c.self.view_is) at has))) c.add_values.ensures.added

pub returns-clause-err_has : goal.returns-clause-err_has
returns-clause-err_has c = on_err_weaker c.add_values.result (λ same. λ facts has.
    HasCounted-SameCells facts c.self.inside.texts c.measures_with.new.self c.self.inside.cube c.add_values.new.self
    same (HasCounted-StandFirst facts c.self.inside.texts c.self.inside.numbers c.measures_with.new.self
    c.self.inside.cube c.measures_with.ensures.first (rw (← c.self.view_is) at has))) c.add_values.ensures.err
