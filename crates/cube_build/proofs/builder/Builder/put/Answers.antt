use Rattle.std.proofs.Common.{◌≡◌, ◌≤◌, ◌∷◌, ◌∙◌, true, length, Some, None, ap}
use Rattle.cube_core.specs.Takes.{fits}
use Rattle.cube_cells.specs.CountedCube.{HasCounted}
use Rattle.cube_ledger.specs.Ledger.{AtSource, Exchanges, all_facts}
use Rattle.cube_build.specs.Parted.{SameCounted}
use Rattle.cube_build.proofs.BuilderLaws.{HasCounted-put, IsBuilder-exchange, IsBuilder-has, SameCells-HasCounted}
use Rattle.cube_build.proofs.FillLaws.{SameCounted-trans}
use Rattle.cube_build.proofs.PartedLaws.{fits_counted-for, fits_counted-same}
use Rattle.cube_ledger.proofs.LedgerLaws.{fits-out}
use Rattle.cube_build.proofs.builder.Builder.put.Goals.{In-Ok-Some, In_ok-add}
use Rattle.cube_build.proofs.builder.Builder.put.Goals as goal

-- the fact fits, and the cube with it counts as many texts over the same sets
fit : (c : In_ok-add) → fits c.self.inside.ledger.schema c.args.fact ≡ true
fit c = rw (← c.self.view_is) at c.requires.fits

added : (c : In_ok-add) → SameCounted c.self.inside.cube c.add.new.self
added c = record { texts = c.add.ensures.texts; same = c.add.ensures.same }

-- a fact is in the place of another
at : (c : In-Ok-Some) → AtSource (Exchanges c.args.id (Some c.in-Ok-Some.gone) (Some c.args.fact)) c.args.source
    c.self.inside.ledger c.put.new.self
at c = rw c.in-Ok-Some.field-0-is at c.in-Ok-Some.ensures.put

has : (c : In-Ok-Some) → HasCounted (c.in-Ok-Some.gone ∷ all_facts c.put.new.self.accounts) c.add.new.self
has c =
    let last : c.args.source ≤ length c.self.inside.ledger.accounts = rw (← c.self.view_is) at c.requires.last in
    HasCounted-put c.self.inside.ledger c.put.new.self c.self.inside.cube c.add.new.self c.args.source c.args.id
    (Some c.in-Ok-Some.gone) c.args.fact c.requires.first last (at c) c.in_ok-add.ensures.added c.self.invariant.has

pub add-requires-clause-fits : goal.add-requires-clause-fits
add-requires-clause-fits c =
    fits_counted-for c.self.inside.ledger.schema c.self.inside.cube c.args.fact c.self.invariant.over
    (rw (← c.self.view_is) at c.requires.fits)

pub remove-requires-clause-fits : goal.remove-requires-clause-fits
remove-requires-clause-fits c =
    let old = c.self.inside.ledger in
    let here = (goal.at.remove-requires-clause-fits c).In-Ok-Some in
    let last : c.args.source ≤ length old.accounts = rw (← c.self.view_is) at c.requires.last in
    let own = (goal.at.remove-requires-clause-fits c).In_ok-add in
    fits_counted-same c.self.inside.cube c.add.new.self c.in-Ok-Some.gone (added own)
    (fits_counted-for old.schema c.self.inside.cube c.in-Ok-Some.gone c.self.invariant.over
    (fits-out old c.put.new.self c.args.source c.args.id c.in-Ok-Some.gone (Some c.args.fact) c.requires.first last
    (at here) c.self.invariant.fit (fit own)))

pub remove-requires-clause-there : goal.remove-requires-clause-there
remove-requires-clause-there c =
    (all_facts c.put.new.self.accounts, has (goal.at.remove-requires-clause-there c).In-Ok-Some)

pub invariant_of-self-in-Ok-Some : goal.invariant_of-self-in-Ok-Some
invariant_of-self-in-Ok-Some c =
    let old = c.self.inside.ledger in
    let here = (goal.at.invariant_of-self-in-Ok-Some c).In-Ok-Some in
    let own = (goal.at.invariant_of-self-in-Ok-Some c).In_ok-add in
    let last : c.args.source ≤ length old.accounts = rw (← c.self.view_is) at c.requires.last in
    IsBuilder-exchange old c.put.new.self c.self.inside.cube c.remove.new.self c.args.source c.args.id
    (Some c.in-Ok-Some.gone) (Some c.args.fact) c.requires.first last (at here) c.self.invariant (fit own)
    (SameCounted-trans c.self.inside.cube c.add.new.self c.remove.new.self (added own)
    (record { texts = c.remove.ensures.texts; same = c.remove.ensures.same }))
    (c.remove.ensures.taken (all_facts c.put.new.self.accounts) (has here))

pub invariant_of-self-in-Ok-None : goal.invariant_of-self-in-Ok-None
invariant_of-self-in-Ok-None c =
    let old = c.self.inside.ledger in
    let own = (goal.at.invariant_of-self-in-Ok-None c).In_ok-add in
    let last : c.args.source ≤ length old.accounts = rw (← c.self.view_is) at c.requires.last in
    let came : AtSource (Exchanges c.args.id None (Some c.args.fact)) c.args.source old c.put.new.self =
    rw c.in-Ok-None.field-0-is at c.in-Ok-None.ensures.put in
    IsBuilder-exchange old c.put.new.self c.self.inside.cube c.add.new.self c.args.source c.args.id None
    (Some c.args.fact) c.requires.first last came c.self.invariant (fit own) (added own)
    (HasCounted-put old c.put.new.self c.self.inside.cube c.add.new.self c.args.source c.args.id None c.args.fact
    c.requires.first last came c.in_ok-add.ensures.added c.self.invariant.has)

pub remove-requires-in-Err-clause-fits : goal.remove-requires-in-Err-clause-fits
remove-requires-in-Err-clause-fits c =
    let own = (goal.at.remove-requires-in-Err-clause-fits c).In_ok-add in
    rw c.in-Err.ensures.back
    (fits_counted-same c.self.inside.cube c.add.new.self c.args.fact (added own)
    (fits_counted-for c.self.inside.ledger.schema c.self.inside.cube c.args.fact c.self.invariant.over (fit own)))

pub remove-requires-in-Err-clause-there : goal.remove-requires-in-Err-clause-there
remove-requires-in-Err-clause-there c =
    let facts = all_facts c.self.inside.ledger.accounts in
    (facts, rw c.in-Err.ensures.back (c.in_ok-add.ensures.added facts c.self.invariant.has))

pub returns-in-Err-clause-err : goal.returns-in-Err-clause-err
returns-in-Err-clause-err c =
    let facts = all_facts c.self.inside.ledger.accounts in
    let own = (goal.at.returns-in-Err-clause-err c).In_ok-add in
    let removed : SameCounted c.add.new.self c.remove-in-Err.new.self =
    record { texts = c.remove-in-Err.ensures.texts; same = c.remove-in-Err.ensures.same } in
    rw (← c.self.view_is) (record {
      ledger = c.in-Err.ensures.err;
      cells = SameCells-HasCounted facts c.self.inside.cube c.remove-in-Err.new.self
          (SameCounted-trans c.self.inside.cube c.add.new.self c.remove-in-Err.new.self (added own) removed)
          (rw c.remove-in-Err.ensures.numbers c.add.ensures.first) c.self.invariant.has
          (c.remove-in-Err.ensures.taken facts
          (rw c.in-Err.ensures.back (c.in_ok-add.ensures.added facts c.self.invariant.has)));
    })

pub returns-in-Ok-Some-clause-has : goal.returns-in-Ok-Some-clause-has
returns-in-Ok-Some-clause-has c = IsBuilder-has c.put.new.self c.remove.new.self (invariant_of-self-in-Ok-Some c)

pub returns-in-Ok-None-clause-has : goal.returns-in-Ok-None-clause-has
returns-in-Ok-None-clause-has c = IsBuilder-has c.put.new.self c.add.new.self (invariant_of-self-in-Ok-None c)
