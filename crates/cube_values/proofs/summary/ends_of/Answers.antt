use Rattle.std.proofs.Common.{◌≡◌, arith, rules, w64, to_z, of_z}
use Rattle.std.specs.Int.{int_min, int_max}
use Rattle.std.proofs.lemmas.Int.{to_z-of_z}
use Rattle.cube_values.specs.Bag.{Bag, size_of}
use Rattle.cube_values.proofs.SummaryLaws.{size_of-append, HasEnds-first_empty, HasEnds-second_empty, HasEnds-append}
use Rattle.cube_values.proofs.summary.ends_of.Goals as goal

pub returns-then-one-eq0 : goal.returns-then-one-eq0
returns-then-one-eq0 c =
    let one : Bag = c.one.inside.trace.bag in
    let other : Bag = c.other.inside.trace.bag in
    let low : to_z w64 (of_z w64 c.other.inside.least) ≡ c.other.inside.least = search (rules, to_z-of_z) in
    let high : to_z w64 (of_z w64 c.other.inside.greatest) ≡ c.other.inside.greatest = search (rules, to_z-of_z) in
    let none : size_of one ≡ 0 = omega (arith, c.one.invariant.size, c.if-one-eq0.true) in
    rw (low, high, ← c.one.view_is, ← c.other.view_is)
    (λ some. HasEnds-first_empty one other c.other.inside.least c.other.inside.greatest none
    (c.other.invariant.ends (omega (arith, some, none, size_of-append one other))))

pub returns-then-other-eq0 : goal.returns-then-other-eq0
returns-then-other-eq0 c =
    let one : Bag = c.one.inside.trace.bag in
    let other : Bag = c.other.inside.trace.bag in
    let low : to_z w64 (of_z w64 c.one.inside.least) ≡ c.one.inside.least = search (rules, to_z-of_z) in
    let high : to_z w64 (of_z w64 c.one.inside.greatest) ≡ c.one.inside.greatest = search (rules, to_z-of_z) in
    let none : size_of other ≡ 0 = omega (arith, c.other.invariant.size, c.if-other-eq0.true) in
    rw (low, high, ← c.one.view_is, ← c.other.view_is)
    (λ some. HasEnds-second_empty one other c.one.inside.least c.one.inside.greatest none
    (c.one.invariant.ends (omega (arith, some, none, size_of-append one other))))

pub returns : goal.returns
returns c =
    let one : Bag = c.one.inside.trace.bag in
    let other : Bag = c.other.inside.trace.bag in
    let low : to_z w64 (of_z w64 c.min.result) ≡ int_min c.one.inside.least c.other.inside.least =
    search (rules, to_z-of_z) in
    let high : to_z w64 (of_z w64 c.max.result) ≡ int_max c.one.inside.greatest c.other.inside.greatest =
    search (rules, to_z-of_z) in
    rw (low, high, ← c.one.view_is, ← c.other.view_is)
    (λ some. HasEnds-append one other c.one.inside.least c.one.inside.greatest c.other.inside.least
    c.other.inside.greatest (c.one.invariant.ends (omega (arith, c.one.invariant.size, c.if-one-eq0.false)))
    (c.other.invariant.ends (omega (arith, c.other.invariant.size, c.if-other-eq0.false))))
