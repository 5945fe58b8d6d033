use Rattle.std.proofs.Common.{rules, lit<, ◌++◌, ◌≡◌}
use Rattle.std.proofs.lemmas.Str.Pattern.{strip_suffix_char}
use Rattle.cube_core.proofs.SchemaSpellingLaws.{argument-between}
use Rattle.cube_core.proofs.schema_toml.argument_of.Goals as goal

pub returns : goal.returns
returns c =
    let rest = c.in_ok-strip_prefix.field-0.now in
    let is : c.args.text.now ≡ c.args.opening.now ++ rest = search rules in
    argument-between _ _ rest _ is (strip_suffix_char 41 rest _ c.strip_suffix.ensures.cases (lit< tt))
