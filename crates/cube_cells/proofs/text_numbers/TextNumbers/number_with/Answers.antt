use Rattle.std.proofs.Common.{◌≡◌, FitsSigned, Some, rules, ap, sym, ◌∙◌}
use Rattle.std.specs.Int.{w64}
use Rattle.std.proofs.lemmas.Int.{to_z-of_z}
use Rattle.cube_cells.specs.Codes.{texts_with}
use Rattle.cube_cells.proofs.TextNumberLaws.{number_in-IsCodeOf, StandFirst-texts_with}
use Rattle.cube_cells.proofs.text_numbers.TextNumbers.number_with.Goals as goal

pub returns-clause-number : goal.returns-clause-number
returns-clause-number c =
    let ensured = c.in_ok-code.ensures in
    let found = number_in-IsCodeOf c.code_with.new.self c.in-Some.text.now c.in_ok-code.code ensured.dictionary
    ensured.code ensured.valid in
    let fits : FitsSigned w64 c.from.result = search rules in
    simp to_z-of_z (rw c.in-Some.is (ap Some (c.from.ensures ∙ sym found.1)))

pub returns-clause-listed : goal.returns-clause-listed
returns-clause-listed c =
    let ensured = c.in_ok-code.ensures in
    rw c.in-Some.is (number_in-IsCodeOf c.code_with.new.self c.in-Some.text.now c.in_ok-code.code ensured.dictionary
    ensured.code ensured.valid).0

pub returns-clause-first : goal.returns-clause-first
returns-clause-first c =
    let texts : c.code_with.new.self ≡ texts_with (Some c.in-Some.text.now) c.self.inside.texts =
    c.in_ok-code.ensures.texts in
    rw (← c.self.view_is, texts) (StandFirst-texts_with (Some c.in-Some.text.now) c.self.inside.texts)
