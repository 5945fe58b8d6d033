use Rattle.std.proofs.Common.{◌≡◌, ◌≤◌, ◌∙◌, Some, None, length, refl, sym}
use Rattle.std.proofs.lemmas.Result.{on_ok_weaker, on_err_weaker}
use Rattle.cube_build.proofs.BuilderLaws.{IsBuilder-has, IsBuilder-refuse, StandsAt-Enters}
use Rattle.cube_ledger.proofs.RulingLaws.{AtSource-Obeys, AtSource-length, AtSource-put, AtSource-take}
use Rattle.cube_ledger.proofs.RulingLaws.{IsRemoval-refused, IsRemoval-puts}
use Rattle.cube_ledger.specs.Ledger.{account_of}
use Rattle.cube_ledger.specs.declared.ruling.Ruling.TheVariants.{Refuse, Put, Take}
use Rattle.cube_cells.proofs.Cells.WalkLaws.{OnOk-both}
use Rattle.cube_build.proofs.builder.Builder.apply.Goals as goal

pub invariant_of-self : goal.invariant_of-self
invariant_of-self c =
    let last : c.args.source ≤ length c.self.inside.ledger.accounts = rw (← c.self.view_is) at c.requires.last in
    IsBuilder-refuse c.self.inside.ledger c.refuse.new.self c.self.inside.cube c.args.source c.args.item.number
    c.in-Refuse.code c.refuse.result c.requires.first last
    c.refuse.ensures.ok c.refuse.ensures.err c.self.invariant

pub returns-in-Refuse-clause-stands : goal.returns-in-Refuse-clause-stands
returns-in-Refuse-clause-stands c =
    let old = c.self.inside.ledger in
    let last : c.args.source ≤ length old.accounts = rw (← c.self.view_is) at c.requires.last in
    let ruling = rw c.in-Refuse.is at c.in_ok-code.ensures.ruling in
    rw (← c.self.view_is)
    (on_ok_weaker c.refuse.result
    (λ at. StandsAt-Enters (record { ledger = old; cube = c.self.inside.cube.cube })
    (record { ledger = c.refuse.new.self; cube = c.self.inside.cube.cube }) c.args.source c.args.item c.requires.first last
    (AtSource-Obeys c.args.item c.args.source old c.refuse.new.self (Refuse c.in-Refuse.code) ruling at)
    (IsBuilder-has c.refuse.new.self c.self.inside.cube (invariant_of-self c)))
    c.refuse.ensures.ok)

pub returns-in-Put-clause-stands : goal.returns-in-Put-clause-stands
returns-in-Put-clause-stands c =
    let old = c.self.inside.ledger in
    let last : c.args.source ≤ length old.accounts = rw (← c.self.view_is) at c.requires.last in
    let ruling = rw c.in-Put.is at c.in_ok-code.ensures.ruling in
    rw (← c.self.view_is)
    (OnOk-both c.put.result
    (λ put has. StandsAt-Enters (record { ledger = old; cube = c.self.inside.cube.cube })
    c.put.new.self c.args.source c.args.item c.requires.first last
    (AtSource-Obeys c.args.item c.args.source old c.put.new.self.ledger (Put c.in-Put.id c.in-Put.fact) ruling
    (AtSource-put c.args.item.number c.in-Put.id put.0 c.in-Put.fact c.args.source old c.put.new.self.ledger put.1))
    has)
    (rw (← c.self.view_is) at c.put.ensures.put) c.put.ensures.has)

pub returns-in-Take-clause-stands : goal.returns-in-Take-clause-stands
returns-in-Take-clause-stands c =
    let old = c.self.inside.ledger in
    let last : c.args.source ≤ length old.accounts = rw (← c.self.view_is) at c.requires.last in
    let ruling = rw c.in-Take.is at c.in_ok-code.ensures.ruling in
    let taken = rw (← c.self.view_is) at c.take.ensures.take in
    rw (← c.self.view_is)
    (StandsAt-Enters (record { ledger = old; cube = c.self.inside.cube.cube })
    c.take.new.self c.args.source c.args.item c.requires.first last
    (AtSource-Obeys c.args.item c.args.source old c.take.new.self.ledger (Take c.in-Take.id) ruling
    (AtSource-take c.args.item.number c.in-Take.id taken.0 c.args.source old c.take.new.self.ledger taken.1))
    c.take.ensures.has)

pub returns-in-Refuse-clause-sources : goal.returns-in-Refuse-clause-sources
returns-in-Refuse-clause-sources c =
    rw (← c.self.view_is) (on_ok_weaker c.refuse.result
    (λ at. AtSource-length _ c.args.source c.self.inside.ledger c.refuse.new.self at) c.refuse.ensures.ok)

pub returns-in-Put-clause-sources : goal.returns-in-Put-clause-sources
returns-in-Put-clause-sources c = on_ok_weaker c.put.result
    (λ put. AtSource-length _ c.args.source c.args.self.now.ledger c.put.new.self.ledger put.1) c.put.ensures.put

pub returns-in-Take-clause-sources : goal.returns-in-Take-clause-sources
returns-in-Take-clause-sources c =
    AtSource-length _ c.args.source c.args.self.now.ledger c.take.new.self.ledger c.take.ensures.take.1

pub returns-in-Refuse-clause-removal : goal.returns-in-Refuse-clause-removal
returns-in-Refuse-clause-removal c =
    let old = c.self.inside.ledger in
    let ruling = rw c.in-Refuse.is at c.in_ok-code.ensures.ruling in
    rw (← c.self.view_is)
    (on_err_weaker c.refuse.result
    (λ same. IsRemoval-refused old.schema (account_of old c.args.source).book c.args.item.what c.in-Refuse.code ruling)
    c.refuse.ensures.err)

pub returns-in-Put-clause-removal : goal.returns-in-Put-clause-removal
returns-in-Put-clause-removal c =
    let old = c.self.inside.ledger in
    let ruling = rw c.in-Put.is at c.in_ok-code.ensures.ruling in
    rw (← c.self.view_is)
    (on_err_weaker c.put.result (λ same. IsRemoval-puts old.schema
    (account_of old c.args.source).book c.args.item.what c.in-Put.id c.in-Put.fact ruling) c.put.ensures.err)

pub returns-in-Refuse-clause-refused : goal.returns-in-Refuse-clause-refused
returns-in-Refuse-clause-refused c = rw (← c.self.view_is) (λ code is. refl)

pub returns-in-Put-clause-refused : goal.returns-in-Put-clause-refused
returns-in-Put-clause-refused c =
    let ruling = rw c.in-Put.is at c.in_ok-code.ensures.ruling in
    rw (← c.self.view_is) (λ code is.
    let clash : None ≡ Some code = sym ruling.lawful ∙ is in
    absurd (cc clash))

pub returns-in-Take-clause-refused : goal.returns-in-Take-clause-refused
returns-in-Take-clause-refused c =
    let ruling = rw c.in-Take.is at c.in_ok-code.ensures.ruling in
    rw (← c.self.view_is) (λ code is.
    let clash : None ≡ Some code = sym ruling.lawful ∙ is in
    absurd (cc clash))
