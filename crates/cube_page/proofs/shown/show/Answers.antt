use Rattle.std.proofs.Common.{rules, ◌≡◌, ◌∙◌, Ok, length, map, ap, subst, sym, arith}
use Rattle.std.proofs.lemmas.Result.{IfOk-weaker}
use Rattle.std.proofs.lemmas.List.{length-map}
use Rattle.cube_tool.specs.Command.{AnswersFile}
use Rattle.cube_page.specs.Page.{Shows, feeds_in}
use Rattle.cube_page.proofs.ShownLaws.{length-feeds_in}
use Rattle.cube_page.proofs.shown.show.Goals as goal

pub show_under-requires : goal.show_under-requires
show_under-requires c =
    let readers = c.in-Ok.readers in
    let count = readers.ok.0 ∙ sym (length-map readers.items (λ reader. reader.now)) ∙ ap length c.in-Ok.ensures
    ∙ length-feeds_in c.args.lengths.now c.args.feeds.now in
    omega arith

pub returns-in-Ok : goal.returns-in-Ok
returns-in-Ok c =
    let s = c.in_ok-schema.schema in
    let says : AnswersFile c.args.schema.now (Ok s) = search rules in
    let feeds : map (λ reader. reader.now) c.in-Ok.readers.items ≡ feeds_in c.args.lengths.now c.args.feeds.now =
    search rules in
    IfOk-weaker c.show_under.result _ _
    (λ shown shows. record {
      layout = s;
      says = says;
      shows = subst (λ fs. Shows s fs shown.cube.items shown.refusals.items) feeds shows;
    }) c.show_under.ensures
