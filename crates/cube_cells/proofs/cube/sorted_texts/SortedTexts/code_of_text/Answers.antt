use Rattle.std.proofs.Common.{arith, subst, sym}
use Rattle.cube_cells.specs.Codes.{IsDictionary}
use Rattle.cube_cells.proofs.Codes.DictionaryLaws.{IsCodeOf-StandsAt, IsCodeOf-no_code, StandsAt-position}
use Rattle.cube_cells.proofs.Codes.DictionaryLaws.{is_listed-position}
use Rattle.cube_cells.proofs.cube.sorted_texts.SortedTexts.code_of_text.Goals as goal

pub overflow_cast-result : goal.overflow_cast-result
overflow_cast-result c =
    let is : IsDictionary c.args.self.now = subst IsDictionary c.self.view_is c.self.invariant in
    let stands = StandsAt-position c.args.text.now c.args.self.now c.in-Some.place (sym c.in-Some.ensures) in
    omega (arith, stands.below, is.few)

pub returns-in-None : goal.returns-in-None
returns-in-None c =
    let is : IsDictionary c.args.self.now = subst IsDictionary c.self.view_is c.self.invariant in
    IsCodeOf-no_code c.args.self.now c.args.text.now is
    (is_listed-position c.args.text.now c.args.self.now (sym c.in-None.ensures))

pub returns-in-Some : goal.returns-in-Some
returns-in-Some c =
    let is : IsDictionary c.args.self.now = subst IsDictionary c.self.view_is c.self.invariant in
    IsCodeOf-StandsAt c.args.self.now c.args.text.now c.in-Some.place is
    (StandsAt-position c.args.text.now c.args.self.now c.in-Some.place (sym c.in-Some.ensures))
