use Rattle.std.proofs.Common.{◌∙◌, map, ap, subst, rules}
use Rattle.std.specs.Prelude.{Option}
use Rattle.std.proofs.lemmas.List.{length-map}
use Rattle.clap.specs.Words.{subcommand_rows_of, takes}
use Rattle.cube_console.specs.CommandLine.{IsRequest, command_line}
use Rattle.cube_console.specs.declared.request.Request.{Request}
use Rattle.std.proofs.lemmas.Result.{IfOk-weaker}
use Rattle.cube_console.proofs.CommandLineLaws.{takes-no_words, takes-check, takes-explain, takes-explain_code}
use Rattle.cube_console.proofs.CommandLineLaws.{request-no_words, request-check, request-explain, request-explain_code}
use Rattle.cube_console.proofs.CommandLineLaws.{IsRequest-HasMatchesOf, request-taken, IsInBounds-IsRequest}
use Rattle.cube_console.proofs.words.read_words.Goals as goal

pub returns-in_err-matches-clause-no_words : goal.returns-in_err-matches-clause-no_words
returns-in_err-matches-clause-no_words g c few =
    let words = map g.S.AsStr.text c.args.words.now in
    let taken = takes-no_words words (rw length-map few) in
    search (rules, taken)

pub returns-in_err-matches-clause-check : goal.returns-in_err-matches-clause-check
returns-in_err-matches-clause-check g c name path plain are =
    let taken = ap (λ words. takes command_line words) are ∙ takes-check name path plain in
    search (rules, taken)

pub returns-in_err-matches-clause-explain : goal.returns-in_err-matches-clause-explain
returns-in_err-matches-clause-explain g c name are =
    let taken = ap (λ words. takes command_line words) are ∙ takes-explain name in
    search (rules, taken)

pub returns-in_err-matches-clause-explain_code : goal.returns-in_err-matches-clause-explain_code
returns-in_err-matches-clause-explain_code g c name code plain are =
    let taken = ap (λ words. takes command_line words) are ∙ takes-explain_code name code plain in
    search (rules, taken)

pub returns-clause-no_words : goal.returns-clause-no_words
returns-clause-no_words g c few =
    let words = map g.S.AsStr.text c.args.words.now in
    let done =
    request-no_words words c.in_ok-matches.matches c.in_ok-request_of.field-0 c.complete.result (rw length-map few)
    c.in_ok-matches.ensures.ok c.in_ok-request_of.ensures.makes c.complete.ensures.some in
    rw done

pub returns-clause-asked : goal.returns-clause-asked
returns-clause-asked g c =
    IfOk-weaker c.complete.result _ _
    (λ request is. IsRequest-HasMatchesOf (map g.S.AsStr.text c.args.words.now)
    c.in_ok-matches.matches request c.in_ok-matches.ensures.ok
    (subst (λ (asked : Option Request). IsRequest (subcommand_rows_of c.in_ok-matches.matches) asked)
    is c.in_ok-request_of.ensures.makes))
    c.complete.ensures.ok

pub returns-clause-check : goal.returns-clause-check
returns-clause-check g c name path plain are =
    request-check _ name path _ c.in_ok-matches.matches c.in_ok-request_of.field-0 c.complete.result plain are
    c.in_ok-matches.ensures.ok c.in_ok-request_of.ensures.makes c.complete.ensures.some

pub returns-clause-explain : goal.returns-clause-explain
returns-clause-explain g c name are =
    request-explain _ name _ c.in_ok-matches.matches c.in_ok-request_of.field-0 c.complete.result are
    c.in_ok-matches.ensures.ok c.in_ok-request_of.ensures.makes c.in_ok-request_of.ensures.explain c.complete.ensures.some

pub returns-clause-explain_code : goal.returns-clause-explain_code
returns-clause-explain_code g c name code plain are =
    request-explain_code _ name code _ c.in_ok-matches.matches c.in_ok-request_of.field-0 c.complete.result plain are
    c.in_ok-matches.ensures.ok c.in_ok-request_of.ensures.makes c.in_ok-request_of.ensures.explain c.complete.ensures.some

pub returns-clause-bounds : goal.returns-clause-bounds
returns-clause-bounds g c =
    IfOk-weaker c.complete.result _ _
    (λ request is. IsInBounds-IsRequest (subcommand_rows_of c.in_ok-matches.matches) request
    (subst (λ (asked : Option Request). IsRequest (subcommand_rows_of c.in_ok-matches.matches) asked)
    is c.in_ok-request_of.ensures.makes))
    c.complete.ensures.ok

pub returns-clause-taken : goal.returns-clause-taken
returns-clause-taken g c request taken makes =
    request-taken _
    (map g.S.AsStr.text c.args.words.now) c.in_ok-matches.matches request c.in_ok-request_of.field-0 c.complete.result
    c.in_ok-matches.ensures.ok makes c.in_ok-request_of.ensures.makes c.complete.ensures.some
