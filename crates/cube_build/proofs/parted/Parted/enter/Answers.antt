use Rattle.std.proofs.Common.{◌≤◌, length}
use Rattle.std.proofs.lemmas.Result.{on_ok_weaker}
use Rattle.cube_build.proofs.PartedLaws.{AreBehind-refused}
use Rattle.cube_ledger.proofs.RulingLaws.{AtSource-Obeys, AtSource-put, AtSource-take}
use Rattle.cube_ledger.proofs.StandLaws.{LedgerStandsAt-Enters}
use Rattle.cube_ledger.specs.declared.ruling.Ruling.TheVariants.{Refuse, Put, Take}
use Rattle.cube_build.proofs.parted.Parted.enter.Goals as goal

pub invariant_of-self : goal.invariant_of-self
invariant_of-self c = λ fresh.
    let last : c.args.source ≤ length c.self.inside.ledger.accounts = rw (← c.self.view_is) at c.requires.last in
    AreBehind-refused c.self.inside.ledger c.refuse.new.self c.self.inside.parts.items c.self.inside.come.items
    c.self.inside.gone.items c.args.source c.args.item.number c.in-Refuse.code c.refuse.result
    c.requires.first last c.refuse.ensures.ok c.refuse.ensures.err (c.self.invariant fresh)

pub returns-in-Refuse-clause-stands : goal.returns-in-Refuse-clause-stands
returns-in-Refuse-clause-stands c =
    let old = c.self.inside.ledger in
    let last : c.args.source ≤ length old.accounts = rw (← c.self.view_is) at c.requires.last in
    let ruling = rw c.in-Refuse.is at c.in_ok-code.ensures.ruling in
    rw (← c.self.view_is)
    (on_ok_weaker c.refuse.result
    (λ at. LedgerStandsAt-Enters old c.refuse.new.self c.args.source c.args.item c.requires.first last
    (AtSource-Obeys c.args.item c.args.source old c.refuse.new.self (Refuse c.in-Refuse.code) ruling at))
    c.refuse.ensures.ok)

pub returns-in-Put-clause-stands : goal.returns-in-Put-clause-stands
returns-in-Put-clause-stands c =
    let old = c.self.inside.ledger in
    let last : c.args.source ≤ length old.accounts = rw (← c.self.view_is) at c.requires.last in
    let ruling = rw c.in-Put.is at c.in_ok-code.ensures.ruling in
    rw (← c.self.view_is)
    (on_ok_weaker c.put.result
    (λ put. LedgerStandsAt-Enters old c.put.new.self c.args.source c.args.item c.requires.first last
    (AtSource-Obeys c.args.item c.args.source old c.put.new.self (Put c.in-Put.id c.in-Put.fact) ruling
    (AtSource-put c.args.item.number c.in-Put.id put.0 c.in-Put.fact c.args.source old c.put.new.self put.1)))
    (rw (← c.self.view_is) at c.put.ensures.put))

pub returns-in-Take-clause-stands : goal.returns-in-Take-clause-stands
returns-in-Take-clause-stands c =
    let old = c.self.inside.ledger in
    let last : c.args.source ≤ length old.accounts = rw (← c.self.view_is) at c.requires.last in
    let ruling = rw c.in-Take.is at c.in_ok-code.ensures.ruling in
    let taken = rw (← c.self.view_is) at c.take.ensures in
    rw (← c.self.view_is)
    (LedgerStandsAt-Enters old c.take.new.self c.args.source c.args.item c.requires.first last
    (AtSource-Obeys c.args.item c.args.source old c.take.new.self (Take c.in-Take.id) ruling
    (AtSource-take c.args.item.number c.in-Take.id taken.0 c.args.source old c.take.new.self taken.1)))
