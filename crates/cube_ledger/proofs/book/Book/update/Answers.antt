use Rattle.std.proofs.Common.{◌≡◌, Some, rules}
use Rattle.cube_ledger.specs.Book.{fact_at}
use Rattle.cube_ledger.proofs.BookLaws.{Makes-update}
use Rattle.cube_ledger.proofs.book.Book.update.Goals as goal

pub returns-clause-made : goal.returns-clause-made
returns-clause-made c =
    let old = c.self.inside.facts.entries in
    let put = c.replace.new.dest in
    let found : fact_at old c.args.id.now ≡ Some c.in-Some.place.now = search rules in
    rw (← c.self.view_is)
    (Makes-update old
    (c.get_mut.follows.lender put).entries c.args.id.now c.args.fact put c.in-Some.place.now c.replace.result found
    c.replace.ensures.value c.replace.ensures.after (((c.get_mut.follows.holds put).3 (search rules)).0)
    (c.get_mut.follows.holds put).0 (c.get_mut.follows.holds put).4)
