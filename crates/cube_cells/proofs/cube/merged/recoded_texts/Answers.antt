use Rattle.std.proofs.Common.{rules, arith, ◌≡◌, ◌<◌, ◌∷◌, ◌∙◌, [], ℕ, ap, get_or, length}
use Rattle.std.proofs.lemmas.List.{get_or_read, length-append}
use Rattle.std.proofs.lemmas.List.Elements.{All-head, All-tail}
use Rattle.cube_cells.specs.Codes.{IsDictionary}
use Rattle.cube_cells.specs.Merged.{IsRecoded}
use Rattle.cube_cells.proofs.Filling.MergedLaws.{AreRecoded-none, AreRecoded-push}
use Rattle.cube_cells.proofs.cube.merged.recoded_texts.Goals as goal

pub loop-dictionary-init : goal.loop-dictionary-init
loop-dictionary-init c =
    let none : c.in_ok-columns.columns.items ≡ [] = search rules in
    let all : c.into_iter-dictionary-iterator.result.rest.items ≡ c.args.dictionaries.items = search rules in
    (rw none (AreRecoded-none c.args.more.now), rw all c.requires.dictionaries, omega (arith, ap length all))

pub recoded_column-requires : goal.recoded_column-requires
recoded_column-requires c =
    let step : c.loop-dictionary.dictionary-iterator.rest.items ≡ c.in-Some.dictionary ∷ c.next.new.self.rest.items =
    search rules in
    All-head IsDictionary c.in-Some.dictionary c.next.new.self.rest.items (rw step at c.loop-dictionary.invariant.1)

pub loop-dictionary-preserved : goal.loop-dictionary-preserved
loop-dictionary-preserved c =
    let loop = c.loop-dictionary in
    let columns = loop.columns.items in
    let step : loop.dictionary-iterator.rest.items ≡ c.in-Some.dictionary ∷ c.next.new.self.rest.items =
    search rules in
    let place : c.len-place.result ≡ length columns = search rules in
    let inside : c.len-place.result < length c.args.more.now =
    omega (arith, place, loop.invariant.0.long, loop.invariant.2, ap length step, c.requires.long) in
    let text : c.index-more-place.result ≡ get_or c.args.more.now (length columns) [] =
    get_or_read c.args.more.now c.len-place.result c.index-more-place.result inside c.index-more-place.is []
    ∙ ap (λ (k : ℕ). get_or c.args.more.now k []) place in
    let is : IsRecoded c.in-Some.dictionary (get_or c.args.more.now (length columns) []) c.in_ok-recoded_column.field-0 =
    rw text at c.in_ok-recoded_column.ensures in
    rw c.in_ok-push.ensures.items (
      AreRecoded-push loop.yielded c.args.more.now columns c.in-Some.dictionary c.in_ok-recoded_column.field-0
          loop.invariant.0 is,
      All-tail IsDictionary c.in-Some.dictionary c.next.new.self.rest.items (rw step at loop.invariant.1),
      omega (arith, loop.invariant.2, ap length step, length-append loop.yielded (c.in-Some.dictionary ∷ [])),
    )
