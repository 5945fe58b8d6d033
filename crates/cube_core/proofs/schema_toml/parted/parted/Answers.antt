use Rattle.std.proofs.Common.{◌≡◌, [], ◌∙◌, length, sym}
use Rattle.std.proofs.lemmas.Bool.{eqb-true}
use Rattle.std.proofs.lemmas.List.{nil_from_length}
use Rattle.cube_core.proofs.TextPlaceLaws.{at_places-none, beside_places-none}
use Rattle.cube_core.proofs.schema_toml.parted.parted.Goals as goal

pub returns-then-is_empty-clause-beside : goal.returns-then-is_empty-clause-beside
returns-then-is_empty-clause-beside g c =
    let none : c.args.places.now ≡ [] = nil_from_length c.args.places.now
    (eqb-true (length c.args.places.now) 0 (sym c.is_empty.ensures ∙ c.if-is_empty.true)) in
    rw none (sym (beside_places-none 0 c.args.items.items))

pub returns-then-is_empty-clause-at : goal.returns-then-is_empty-clause-at
returns-then-is_empty-clause-at g c =
    let none : c.args.places.now ≡ [] = nil_from_length c.args.places.now
    (eqb-true (length c.args.places.now) 0 (sym c.is_empty.ensures ∙ c.if-is_empty.true)) in
    rw none (c.new.ensures.items ∙ sym (at_places-none 0 c.args.items.items))
