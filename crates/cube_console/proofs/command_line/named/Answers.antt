use Rattle.std.proofs.Common.{◌∙◌, ap, true}
use Rattle.std.proofs.lemmas.Result.{IfOk-weaker}
use Rattle.clap.specs.Simple.{App, app_of_fields}
use Rattle.cube_console.proofs.command_line.named.Goals as goal

-- a command with a version
abbrev versioned : App → App
versioned line = record line { top = record line.top { has_version = true } }

-- a command without the subcommand `help`
abbrev helpless : App → App
helpless line = record line { top = record line.top { disable_help_subcommand = true } }

pub returns : goal.returns
returns c =
    let told = ap app_of_fields c.about.ensures ∙ c.new.ensures.app in
    let dated = ap app_of_fields c.version.ensures ∙ ap versioned told in
    let used = ap app_of_fields c.after_help.ensures ∙ ap app_of_fields c.override_usage.ensures ∙ dated in
    let plain = ap app_of_fields c.disable_help_subcommand.ensures ∙ ap helpless used in
    IfOk-weaker c.bin_name.result _ _ (λ command made. ap app_of_fields made.0 ∙ plain) c.bin_name.ensures
