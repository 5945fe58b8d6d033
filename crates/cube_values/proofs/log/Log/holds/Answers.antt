use Rattle.std.proofs.Common.{FitsSigned, w64}
use Rattle.std.proofs.lemmas.Int.{to_z-of_z}
use Rattle.cube_values.proofs.OwedLaws.{OnTrue-without, OnFalse-without}
use Rattle.cube_values.proofs.log.Log.holds.Goals as goal

pub returns-in-Some-clause-held : goal.returns-in-Some-clause-held
returns-in-Some-clause-held c =
    let fits : FitsSigned w64 c.args.value = c.ranges.value in
    let count = simp to_z-of_z at (rw c.deref-in-Some.ensures.value at c.count_in.ensures) in
    let more = simp to_z-of_z at (rw c.deref.ensures.value at c.counts_more.ensures.more) in
    rw (← c.self.view_is) (OnTrue-without c.counts_more.result c.self.inside.taken.items c.self.inside.pairs.items
    c.args.value c.count_in.result count more)

pub returns-in-Some-clause-absent : goal.returns-in-Some-clause-absent
returns-in-Some-clause-absent c =
    let fits : FitsSigned w64 c.args.value = c.ranges.value in
    let count = simp to_z-of_z at (rw c.deref-in-Some.ensures.value at c.count_in.ensures) in
    let other = simp to_z-of_z at (rw c.deref.ensures.value at c.counts_more.ensures.other) in
    rw (← c.self.view_is) (OnFalse-without c.counts_more.result c.self.inside.taken.items c.self.inside.pairs.items
    c.args.value c.count_in.result count other)
