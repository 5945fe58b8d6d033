use Rattle.std.proofs.Common.{◌≡◌, ◌==◌, ◌∙◌, subst, true}
use Rattle.std.proofs.lemmas.Bool.{not_from_false, ne_eqb}
use Rattle.cube_core.specs.Layout.{is_listed}
use Rattle.cube_cells.specs.Codes.{IsDictionary, no_code}
use Rattle.cube_cells.proofs.Codes.DictionaryLaws.{is_code-is_listed}
use Rattle.cube_cells.proofs.cube.dictionary.Dictionary.code_of_listed.Goals as goal

pub returns-clause-valid : goal.returns-clause-valid
returns-clause-valid c =
    let is : IsDictionary c.args.self.now = subst IsDictionary c.self.view_is c.self.invariant in
    let code = c.code_of_text-code.result in
    let listed : is_listed c.args.text.now c.args.self.now ≡ true =
    c.code_of_text-code.ensures.listed ∙ not_from_false (code == no_code) (ne_eqb code no_code c.if-code.false) in
    is_code-is_listed c.args.self.now c.args.text.now code is c.code_of_text-code.ensures.code listed
