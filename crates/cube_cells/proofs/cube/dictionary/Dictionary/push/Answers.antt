use Rattle.std.proofs.Common.{arith, ◌≡◌, map, false}
use Rattle.std.specs.String.{string_bytes}
use Rattle.cube_core.specs.Layout.{is_listed}
use Rattle.cube_cells.proofs.Codes.DictionaryLaws.{IsDictionary-push, no_code-next, map-insert_key}
use Rattle.std.proofs.lemmas.List.{length-map}
use Rattle.cube_cells.proofs.cube.dictionary.Dictionary.push.Goals as goal

pub invariant_of-self-2 : goal.invariant_of-self-2
invariant_of-self-2 c =
    let texts = map string_bytes c.self.inside.texts.keys in
    let unlisted : is_listed c.args.text.now texts ≡ false = rw c.self.view_is c.requires in
    let bytes : string_bytes c.in_ok-text.text ≡ c.args.text.now = c.in_ok-text.ensures.ok in
    let pushed = map-insert_key c.in_ok-text.text c.self.inside.texts.keys c.insert_full.new.self.keys c.args.text.now
    c.in_ok-insert_full.ensures.keys bytes unlisted in
    let room = no_code-next c.len.result c.in-Some.code c.in-Some.ensures in
    rw pushed (IsDictionary-push texts c.args.text.now c.self.invariant unlisted
    (omega (arith, room.0, c.len.ensures.len, length-map c.self.inside.texts.keys string_bytes)))

pub returns-clause-texts : goal.returns-clause-texts
returns-clause-texts c =
    let texts = map string_bytes c.self.inside.texts.keys in
    let unlisted : is_listed c.args.text.now texts ≡ false = rw c.self.view_is c.requires in
    let bytes : string_bytes c.in_ok-text.text ≡ c.args.text.now = c.in_ok-text.ensures.ok in
    let pushed = map-insert_key c.in_ok-text.text c.self.inside.texts.keys c.insert_full.new.self.keys c.args.text.now
    c.in_ok-insert_full.ensures.keys bytes unlisted in
    rw (← c.self.view_is) pushed

pub returns-clause-dictionary : goal.returns-clause-dictionary
returns-clause-dictionary c = invariant_of-self-2 c
