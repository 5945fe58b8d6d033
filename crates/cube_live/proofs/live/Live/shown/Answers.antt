use Rattle.std.proofs.lemmas.Result.{IfOk-weaker}
use Rattle.cube_core.specs.Arrival.{of_sources}
use Rattle.cube_live.specs.Shows.{AsksRows, asks_for}
use Rattle.cube_live.proofs.ShowsLaws.{Shows-asked, ShowsCube-live, ShowsRows-live, refusals-live, refusals_after-live}
use Rattle.cube_live.proofs.live.Live.shown.Goals as goal

pub returns-in-Print : goal.returns-in-Print
returns-in-Print c =
    let s = c.self.inside.schema.now in
    let ledger = c.self.inside.parted in
    let numbers = c.self.inside.numbers.items in
    rw (← c.self.view_is, c.in-Print.is)
    (IfOk-weaker c.cube_text.result _ _ (λ text is.
    λ arrivals stands. ShowsCube-live s ledger numbers arrivals text.items c.self.invariant stands.ledger is)
    c.cube_text.ensures)

pub returns-in-Slice : goal.returns-in-Slice
returns-in-Slice c =
    let s = c.self.inside.schema.now in
    let ledger = c.self.inside.parted in
    let numbers = c.self.inside.numbers.items in
    let asks : AsksRows c.args.question.now = rw c.in-Slice.is tt in
    rw (← c.self.view_is)
    (IfOk-weaker c.rows_text.result _ _
    (λ text is. λ arrivals stands. Shows-asked c.args.question.now s (of_sources 64 arrivals) text.items asks
    (ShowsRows-live (asks_for c.args.question.now)
    s ledger numbers arrivals text.items c.self.invariant stands.ledger is))
    c.rows_text.ensures)

pub returns-in-Drill : goal.returns-in-Drill
returns-in-Drill c =
    let s = c.self.inside.schema.now in
    let ledger = c.self.inside.parted in
    let numbers = c.self.inside.numbers.items in
    let asks : AsksRows c.args.question.now = rw c.in-Drill.is tt in
    rw (← c.self.view_is)
    (IfOk-weaker c.rows_text-in-Drill.result _ _
    (λ text is. λ arrivals stands. Shows-asked c.args.question.now s (of_sources 64 arrivals) text.items asks
    (ShowsRows-live (asks_for c.args.question.now)
    s ledger numbers arrivals text.items c.self.invariant stands.ledger is))
    c.rows_text-in-Drill.ensures)

pub returns-in-RollUp : goal.returns-in-RollUp
returns-in-RollUp c =
    let s = c.self.inside.schema.now in
    let ledger = c.self.inside.parted in
    let numbers = c.self.inside.numbers.items in
    let asks : AsksRows c.args.question.now = rw c.in-RollUp.is tt in
    rw (← c.self.view_is)
    (IfOk-weaker c.rows_text-in-RollUp.result _ _
    (λ text is. λ arrivals stands. Shows-asked c.args.question.now s (of_sources 64 arrivals) text.items asks
    (ShowsRows-live (asks_for c.args.question.now)
    s ledger numbers arrivals text.items c.self.invariant stands.ledger is))
    c.rows_text-in-RollUp.ensures)

pub returns-in-Refusals : goal.returns-in-Refusals
returns-in-Refusals c =
    let s = c.self.inside.schema.now in
    let ledger = c.self.inside.parted in
    let numbers = c.self.inside.numbers.items in
    rw (← c.self.view_is, c.in-Refusals.is)
    (IfOk-weaker c.print_refusals.result _ _
    (λ text is. λ arrivals stands. refusals-live s ledger numbers arrivals text.items c.self.invariant stands.ledger is)
    (rw c.ledger.ensures at c.print_refusals.ensures))

pub returns-in-RefusalsAfter : goal.returns-in-RefusalsAfter
returns-in-RefusalsAfter c =
    let s = c.self.inside.schema.now in
    let ledger = c.self.inside.parted in
    let numbers = c.self.inside.numbers.items in
    rw (← c.self.view_is, c.in-RefusalsAfter.is)
    (IfOk-weaker c.refusals_after_text.result _ _ (λ text is. λ arrivals stands. refusals_after-live s ledger numbers
    arrivals text.items c.in-RefusalsAfter.source c.in-RefusalsAfter.number c.refusals.result.now c.self.invariant
    stands.ledger (rw c.ledger-in-RefusalsAfter.ensures at c.refusals.ensures) is)
    c.refusals_after_text.ensures)
