use Rattle.std.proofs.Common.{ℤ, ℕ, List, ◌≡◌, ◌<◌, ◌∙◌, pos, length, get_or, sym}
use Rattle.std.proofs.Common.{ap, arith, rules, FitsSigned, w32, of_z, to_z}
use Rattle.std.proofs.lemmas.Int.{to_z-of_z}
use Rattle.std.proofs.lemmas.List.{get_or_default}
use Rattle.cube_values.proofs.OrderedLaws.{IsKeeping-paid, IsKeeping-kept}
use Rattle.cube_values.proofs.paid.keep_others.Goals.{
  then-paid-owed+then-owed-paid,
  else-paid-owed,
  else-paid-owed-via-then-paid-owed+else-owed-paid,
  else-paid-owed-via-else-paid-owed,
}
use Rattle.cube_values.proofs.paid.keep_others.Goals as goal

pub loop-place-preserved : goal.loop-place-preserved
loop-place-preserved c =
    let old : List ℤ = c.args.numbers.now in
    let now : List ℤ = c.loop-place.numbers in
    let owed : List ℤ = c.args.owed.now in
    let place : ℕ = c.loop-place.place in
    let within : place < length old = search rules in
    let fits : FitsSigned w32 (get_or now place (pos 0)) = search rules in
    let x : ℤ = get_or now place (pos 0) in
    let inside : place < length now = omega (arith, within, c.loop-place.invariant.long) in
    elim c.if-paid-owed.branch [
      | then-paid-owed+then-owed-paid w ↦
          let number : ℤ = get_or owed c.loop-place.paid (pos 0) in
          let owes : FitsSigned w32 number = search rules in
          rw (w.numbers-is, w.kept-is, w.paid-is) (IsKeeping-paid old now owed c.loop-place.kept c.loop-place.paid place
          (pos 0) c.loop-place.invariant within w.if-paid-owed.true
          (sym (to_z-of_z w32 number owes) ∙ ap (to_z w32) w.if-owed-paid.true ∙ to_z-of_z w32 x fits))
      | else-paid-owed w ↦
          let other : c.loop-place.paid < length owed → get_or owed c.loop-place.paid x ≡ x → ⊥ =
          elim w.else-paid-owed.branch [
            | else-paid-owed-via-then-paid-owed+else-owed-paid w' ↦ λ more same.
                w'.if-owed-paid.false (ap (of_z w32) (get_or_default owed c.loop-place.paid (pos 0) x more ∙ same))
            | else-paid-owed-via-else-paid-owed w' ↦ λ more same. absurd (omega (arith, more, w'.if-paid-owed.false))
          ] in
          rw (w.numbers-is, w.kept-is, w.paid-is, to_z-of_z w32 x fits) (IsKeeping-kept old now owed c.loop-place.kept
          c.loop-place.paid place x c.loop-place.invariant within (get_or_default now place (pos 0) x inside) other)
    ]
