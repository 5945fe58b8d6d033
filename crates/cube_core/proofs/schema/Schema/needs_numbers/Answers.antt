use Rattle.std.proofs.Common.{rules, ◌≡◌, ◌∙◌, sym}
use Rattle.cube_core.specs.Layout.{needs_numbers}
use Rattle.cube_core.proofs.SufficesLaws.{all_suffice_plain}
use Rattle.cube_core.proofs.schema.Schema.needs_numbers.Goals as goal

pub returns-clause-suffice : goal.returns-clause-suffice
returns-clause-suffice c =
    let needs : c.some_needs_each.result ≡ needs_numbers c.args.self.now = search rules in
    λ none. all_suffice_plain c.args.self.now (sym needs ∙ none)
