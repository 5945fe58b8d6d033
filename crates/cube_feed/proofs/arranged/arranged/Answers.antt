use Rattle.std.proofs.Common.{◌≡◌, [], ◌∙◌, length, sym}
use Rattle.std.proofs.lemmas.Bool.{eqb-true}
use Rattle.std.proofs.lemmas.List.{nil_from_length}
use Rattle.csv.specs.Records.{fields_of}
use Rattle.cube_core.proofs.PlainLaws.{arranged-none}
use Rattle.cube_feed.proofs.arranged.arranged.Goals as goal

pub returns-then-is_empty : goal.returns-then-is_empty
returns-then-is_empty c =
    let s = c.args.schema.now in
    let places = c.text_places-text_places in
    let none : s.text_places ≡ [] = sym places.ensures.value ∙ nil_from_length places.result.now
    (eqb-true (length places.result.now) 0 (sym c.is_empty.ensures ∙ c.if-is_empty.true)) in
    sym (arranged-none s (fields_of c.args.fields.now) none)
