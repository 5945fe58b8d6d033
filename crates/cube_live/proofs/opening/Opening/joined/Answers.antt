use Rattle.cube_live.proofs.OpeningLaws.{IsOpening-joined}
use Rattle.cube_live.proofs.opening.Opening.joined.Goals as goal

pub invariant_of-result : goal.invariant_of-result
invariant_of-result c =
    let alike = rw (← c.others.view_is, ← c.self.view_is) at c.requires.schema in
    rw c.in_ok-append-2.ensures.items (IsOpening-joined c.self.inside.ledger c.others.inside.ledger c.append.new.self
    c.self.inside.most c.others.inside.most c.self.inside.numbers.items c.others.inside.numbers.items alike
    c.append.ensures.schema c.in_ok-append.ensures.accounts c.self.invariant c.others.invariant)
