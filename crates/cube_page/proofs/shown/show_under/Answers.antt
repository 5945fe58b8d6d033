use Rattle.std.proofs.Common.{◌∙◌, ap, sym}
use Rattle.std.specs.Prelude.{Some}
use Rattle.std.proofs.lemmas.List.{length-map}
use Rattle.cube_core.specs.Text.{text_of_refusals}
use Rattle.cube_ledger.specs.Ledger.{LedgerView}
use Rattle.cube_live.proofs.RefusalLaws.{refusals_of_accounts}
use Rattle.cube_page.proofs.ShownLaws.{OfFeeds-shown, map-once}
use Rattle.cube_page.proofs.shown.show_under.Goals as goal

pub returns-in-Ok : goal.returns-in-Ok
returns-in-Ok c =
    let readers = c.args.readers in
    rw (map-once readers.items) (OfFeeds-shown {builder = c.in_ok-builder.builder} c.in_ok-builder.ensures.schema
    (c.in_ok-builder.ensures.sources ∙ readers.ok.0 ∙ sym (length-map readers.items (λ reader. Some reader.now)))
    (c.in-Ok.ensures ∙ ap (λ (l : LedgerView). text_of_refusals (refusals_of_accounts l.accounts)) c.ledger.ensures)
    (rw c.new-cube.ensures.items at c.in_ok-builder.ensures.ok))
