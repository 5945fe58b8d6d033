use Rattle.std.proofs.Common.{◌≡◌, ◌==◌, ◌∙◌, false, arith, sym}
use Rattle.std.proofs.lemmas.Bool.{eqb-true, false_from_ne_true}
use Rattle.cube_feed.proofs.SkipLaws.{IsSkipped-behind}
use Rattle.cube_feed.proofs.feed_bytes.skipped.Goals as goal

pub returns : goal.returns
returns c =
    let d = c.args.bounds.now.delimiter in
    let apart : (10 == d) ≡ false =
    false_from_ne_true (10 == d) (λ same. c.if-bounds-eq10.false (sym (eqb-true 10 d same))) in
    let no_quote : c.quotes.result ≡ 0 = omega arith in
    IsSkipped-behind c.args.bounds.now c.args.bytes.now c.behind_line_end.result apart
    (sym c.is_quoted.ensures ∙ c.if-is_quoted.false) (sym c.quotes.ensures ∙ no_quote)
    (c.has_room.ensures c.if-not-has_room.false) c.behind_line_end.ensures.at_most c.behind_line_end.ensures.behind
