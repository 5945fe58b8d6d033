use Rattle.std.proofs.Common.{◌≡◌, subst, refl, true}
use Rattle.cube_core.specs.Layout.{is_listed}
use Rattle.cube_cells.specs.Codes.{IsDictionary}
use Rattle.cube_cells.proofs.Codes.DictionaryLaws.{IsCodeOf-StandsAt, is_listed-StandsAt}
use Rattle.cube_cells.proofs.cube.dictionary.Dictionary.code_with.Goals as goal

pub returns-then-stands_at-clause-texts : goal.returns-then-stands_at-clause-texts
returns-then-stands_at-clause-texts c =
    let found = c.stands_at.ensures c.if-stands_at.true in
    let listed : is_listed c.in-Some.text.now c.args.self.now ≡ true =
    is_listed-StandsAt c.in-Some.text.now c.args.self.now _ (record { below = found.0; is_text = found.1 }) in
    rw (c.in-Some.is, listed) refl

pub returns-then-stands_at-clause-code : goal.returns-then-stands_at-clause-code
returns-then-stands_at-clause-code c =
    let is : IsDictionary c.args.self.now = subst IsDictionary c.self.view_is c.self.invariant in
    let found = c.stands_at.ensures c.if-stands_at.true in
    rw c.in-Some.is (IsCodeOf-StandsAt c.args.self.now c.in-Some.text.now _ is
    (record { below = found.0; is_text = found.1 }))
