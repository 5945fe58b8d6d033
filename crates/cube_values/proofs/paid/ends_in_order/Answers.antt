use Rattle.std.proofs.Common.{ℤ, List, ◌-◌, pos, length, get_or, rules, FitsSigned, w32}
use Rattle.std.proofs.lemmas.Int.{to_z-of_z}
use Rattle.cube_values.proofs.OrderedLaws.{HasEnds-sorted}
use Rattle.cube_values.proofs.paid.ends_in_order.Goals as goal

pub returns : goal.returns
returns c =
    let numbers : List ℤ = c.args.numbers.now in
    let first : FitsSigned w32 (get_or numbers 0 (pos 0)) = search rules in
    let last : FitsSigned w32 (get_or numbers (length numbers - 1) (pos 0)) = search rules in
    rw (
      to_z-of_z w32 (get_or numbers 0 (pos 0)) first,
      to_z-of_z w32 (get_or numbers (length numbers - 1) (pos 0)) last,
    )
    (HasEnds-sorted numbers (pos 0) c.requires.sorted c.requires.some)
