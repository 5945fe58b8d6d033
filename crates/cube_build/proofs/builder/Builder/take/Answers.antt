use Rattle.std.proofs.Common.{◌≤◌, ◌∷◌, ◌∙◌, length, Some, None, ap, refl}
use Rattle.cube_core.specs.declared.fact.Fact.{Fact}
use Rattle.cube_cells.specs.CountedCube.{HasCounted}
use Rattle.cube_cells.proofs.CountedCubeLaws.{HasCounted-IsPermutation}
use Rattle.cube_ledger.specs.Ledger.{AtSource, Exchanges, all_facts}
use Rattle.cube_build.proofs.BuilderLaws.{IsBuilder-exchange, IsBuilder-has}
use Rattle.cube_build.proofs.PartedLaws.{fits_counted-for}
use Rattle.cube_ledger.proofs.LedgerLaws.{all_facts-exchange, fits-out}
use Rattle.cube_build.proofs.builder.Builder.take.Goals.{In-Some}
use Rattle.cube_build.proofs.builder.Builder.take.Goals as goal

-- the fact that is taken
at : (c : In-Some)
    → AtSource (Exchanges c.args.id.now (Some c.in-Some.taken) None) c.args.source c.self.inside.ledger c.take.new.self
at c = rw c.in-Some.is at c.take.ensures

has : (c : In-Some) → HasCounted (c.in-Some.taken ∷ all_facts c.take.new.self.accounts) c.self.inside.cube
has c =
    let last : c.args.source ≤ length c.self.inside.ledger.accounts = rw (← c.self.view_is) at c.requires.last in
    HasCounted-IsPermutation (all_facts c.self.inside.ledger.accounts)
    (c.in-Some.taken ∷ all_facts c.take.new.self.accounts) c.self.inside.cube
    (all_facts-exchange c.self.inside.ledger c.take.new.self c.args.source c.args.id.now
    (Some c.in-Some.taken) None c.requires.first last (at c)) c.self.invariant.has

pub remove-requires-clause-fits : goal.remove-requires-clause-fits
remove-requires-clause-fits c =
    let old = c.self.inside.ledger in
    let last : c.args.source ≤ length old.accounts = rw (← c.self.view_is) at c.requires.last in
    fits_counted-for old.schema c.self.inside.cube c.in-Some.taken c.self.invariant.over
    (fits-out old c.take.new.self c.args.source c.args.id.now c.in-Some.taken None c.requires.first last
    (at (goal.at.remove-requires-clause-fits c).In-Some) c.self.invariant.fit tt)

pub remove-requires-clause-there : goal.remove-requires-clause-there
remove-requires-clause-there c =
    (all_facts c.take.new.self.accounts, has (goal.at.remove-requires-clause-there c).In-Some)

pub invariant_of-self : goal.invariant_of-self
invariant_of-self c =
    let old = c.self.inside.ledger in
    let last : c.args.source ≤ length old.accounts = rw (← c.self.view_is) at c.requires.last in
    let here = (goal.at.invariant_of-self c).In-Some in
    IsBuilder-exchange old c.take.new.self c.self.inside.cube c.remove.new.self c.args.source c.args.id.now
    (Some c.in-Some.taken) None c.requires.first last (at here) c.self.invariant tt
    (record { texts = c.remove.ensures.texts; same = c.remove.ensures.same })
    (c.remove.ensures.taken (all_facts c.take.new.self.accounts) (has here))

pub invariant_of-self-in-None : goal.invariant_of-self-in-None
invariant_of-self-in-None c =
    let old = c.self.inside.ledger in
    let last : c.args.source ≤ length old.accounts = rw (← c.self.view_is) at c.requires.last in
    let gone : AtSource (Exchanges c.args.id.now None None) c.args.source old c.take.new.self =
    rw c.in-None.is at c.take.ensures in
    IsBuilder-exchange old c.take.new.self c.self.inside.cube c.self.inside.cube c.args.source c.args.id.now None None
    c.requires.first last gone c.self.invariant tt
    (record { texts = refl; same = record { schema = refl; sets = refl } })
    (HasCounted-IsPermutation (all_facts old.accounts) (all_facts c.take.new.self.accounts) c.self.inside.cube
    (all_facts-exchange old c.take.new.self c.args.source c.args.id.now None None c.requires.first last gone)
    c.self.invariant.has)

pub returns-in-Some-clause-has : goal.returns-in-Some-clause-has
returns-in-Some-clause-has c = IsBuilder-has c.take.new.self c.remove.new.self (invariant_of-self c)

pub returns-in-None-clause-has : goal.returns-in-None-clause-has
returns-in-None-clause-has c = IsBuilder-has c.take.new.self c.self.inside.cube (invariant_of-self-in-None c)
