use Rattle.std.proofs.Common.{FitsSigned, Some, rules, ap, sym, subst, ◌∙◌}
use Rattle.std.specs.Int.{w64}
use Rattle.std.specs.Prelude.{Contains}
use Rattle.std.proofs.lemmas.Int.{to_z-of_z}
use Rattle.cube_core.specs.declared.key.Coord.TheVariants as coord
use Rattle.cube_cells.specs.Codes.{IsCodeOf, IsDictionary}
use Rattle.cube_cells.proofs.TextNumberLaws.{number_in-known}
use Rattle.cube_cells.proofs.text_numbers.TextNumbers.number_known.Goals as goal

pub returns : goal.returns
returns c =
    let texts = c.args.self.now in
    let text = c.in_ok-text.text.now in
    let is : IsDictionary texts = subst IsDictionary c.self.view_is c.self.invariant in
    let of : IsCodeOf texts (coord.Text text) c.code_of_value-code.result =
    rw (← c.self.view_is) c.code_of_value-code.ensures in
    let among : Contains texts text = rw c.in_ok-text.was at c.requires in
    let fits : FitsSigned w64 c.from.result = search rules in
    simp to_z-of_z (rw c.in_ok-text.was
    (ap Some (c.from.ensures ∙ sym (number_in-known texts text c.code_of_value-code.result is of among))))
