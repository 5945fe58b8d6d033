use Rattle.std.proofs.Common.{◌≡◌, ◌∙◌, List, Option, ap, arith, length, subst, sym, true, ℕ, ℤ}
use Rattle.cube_core.specs.declared.fact.Fact.{Fact}
use Rattle.cube_cells.specs.CountedCube.{CountedView, HasCounted, first_fact, fits_counted}
use Rattle.cube_cells.specs.Cube.{HoldsFact, TakesFact}
use Rattle.cube_cells.specs.TextNumbers.{number_in}
use Rattle.cube_core.specs.TextPlaces.{counted_by}
use Rattle.cube_cells.proofs.CountedCubeLaws.{HasCounted-TakesFact, HasCounted-listed, HoldsFact-HasCounted}
use Rattle.cube_cells.proofs.CountedCubeLaws.{counted_by-first_fact, counted_by-alone}
use Rattle.cube_cells.proofs.cube.counted_cube.CountedCube.remove.Goals.{After-self, After-as_slice}
use Rattle.cube_cells.proofs.cube.counted_cube.CountedCube.remove.Goals as goal

-- the fact as it is counted
abbrev counted : After-self → Fact
counted c = counted_by (number_in c.self.inside.numbers) c.self.inside.texts c.args.fact.now

fit : (c : After-self) → fits_counted c.self.inside.texts c.self.inside.cube.schema c.args.fact.now ≡ true
fit c = rw (← c.self.view_is) at c.requires.fits

-- the cube holds it
held : (c : After-self) → HoldsFact c.self.inside.cube (counted c)
held c =
    let there = rw (← c.self.view_is) at c.requires.there in
    HoldsFact-HasCounted c.args.fact.now there.0 _ (fit c) there.1

-- ---- no text is counted
pub remove-requires : goal.remove-requires
remove-requires c =
    subst (HoldsFact c.self.inside.cube)
    (counted_by-alone (number_in c.self.inside.numbers) c.self.inside.texts c.args.fact.now c.if-self-eq0.true)
    (held (goal.at.remove-requires c).After-self)

pub returns-then-self-eq0-clause-taken : goal.returns-then-self-eq0-clause-taken
returns-then-self-eq0-clause-taken c = λ facts has.
    let is = counted_by-alone (number_in c.self.inside.numbers) c.self.inside.texts c.args.fact.now
    c.if-self-eq0.true in
    HasCounted-TakesFact c.args.fact.now facts c.self.inside.texts c.self.inside.numbers c.self.inside.cube
    c.remove.new.self (subst (λ (f : Fact). TakesFact f c.self.inside.cube c.remove.new.self) (sym is)
    c.remove.ensures.taken) (rw (← c.self.view_is) at has)

-- ---- some are
pub measures_known-measures-requires-clause-known : goal.measures_known-measures-requires-clause-known
measures_known-measures-requires-clause-known c =
    let there = rw (← c.self.view_is) at c.requires.there in HasCounted-listed c.args.fact.now there.0 _ there.1

-- the first values of the fact, and the measures with the numbers of its texts, are the fact as it is counted
is_counted : (c : After-as_slice)
    → first_fact (length c.self.inside.cube.schema.dimensions) c.args.fact.now.dims c.as_slice.result.now
    ≡ counted_by (number_in c.self.inside.numbers) c.self.inside.texts c.args.fact.now
is_counted c =
    ap (λ (measures : List (Option ℤ)).
    first_fact (length c.self.inside.cube.schema.dimensions) c.args.fact.now.dims measures)
    (c.as_slice.ensures.value ∙ c.measures_known-measures.ensures)
    ∙ counted_by-first_fact (number_in c.self.inside.numbers) c.self.inside.texts c.self.inside.cube.schema
    c.args.fact.now (rw (← c.self.view_is) at c.requires.fits)

pub take_values-requires : goal.take_values-requires
take_values-requires c =
    let at = goal.at.take_values-requires c in
    subst (HoldsFact c.self.inside.cube) (sym (is_counted at.After-as_slice)) (held at.After-self)

pub returns-clause-taken : goal.returns-clause-taken
returns-clause-taken c = λ facts has.
    let after = (goal.at.returns-clause-taken c).After-as_slice in
    HasCounted-TakesFact c.args.fact.now facts c.self.inside.texts c.self.inside.numbers c.self.inside.cube
    c.take_values.new.self (subst (λ (f : Fact). TakesFact f c.self.inside.cube c.take_values.new.self)
    (is_counted after) c.take_values.ensures) (rw (← c.self.view_is) at has)
