use Rattle.std.proofs.Common.{ℤ, ℕ, pos, get_or, FitsSigned, w64}
use Rattle.std.proofs.lemmas.Int.{to_z-of_z}
use Rattle.std.proofs.lemmas.List.{get_or_default}
use Rattle.cube_values.proofs.LogLaws.{AddsOne-set_from_IsLastOf, IsOrdered-set_from_IsLastOf}
use Rattle.cube_values.proofs.log.take_one.Goals as goal

pub returns-clause-ordered : goal.returns-clause-ordered
returns-clause-ordered c =
    let fits : FitsSigned w64 c.args.value = c.ranges.value in
    let last = simp to_z-of_z at c.in-Some.ensures.found in
    let e : ℤ × ℕ = get_or c.args.pairs.now c.in-Some.place (pos 0, 0) in
    IsOrdered-set_from_IsLastOf c.args.pairs.now c.args.value c.in-Some.place e
    (get_or_default c.args.pairs.now c.in-Some.place (pos 0, 0) e last.within) last c.requires

pub returns-clause-taken : goal.returns-clause-taken
returns-clause-taken c =
    let fits : FitsSigned w64 c.args.value = c.ranges.value in
    let last = simp to_z-of_z at c.in-Some.ensures.found in
    let e : ℤ × ℕ = get_or c.args.pairs.now c.in-Some.place (pos 0, 0) in
    AddsOne-set_from_IsLastOf c.args.pairs.now c.args.value c.in-Some.place e
    (get_or_default c.args.pairs.now c.in-Some.place (pos 0, 0) e last.within) last
