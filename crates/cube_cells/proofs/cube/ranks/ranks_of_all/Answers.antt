use Rattle.std.proofs.Common.{◌<◌, List, ℕ, take, get_or, length, [], arith, subst}
use Rattle.std.proofs.lemmas.List.{get_or_read, take_more}
use Rattle.cube_cells.specs.Ranks.{AreRanks}
use Rattle.cube_core.proofs.ListLaws.{AllZip-push}
use Rattle.cube_cells.proofs.cube.ranks.ranks_of_all.Goals as goal

pub loop-dictionary-preserved : goal.loop-dictionary-preserved
loop-dictionary-preserved c =
    let i = c.loop-dictionary.dictionary-index in
    let dictionaries = c.args.dictionaries.now in
    let inside : i < length dictionaries = omega arith in
    let item = get_or_read dictionaries i c.dictionary-item.result inside c.dictionary-item.is [] in
    let are : AreRanks (get_or dictionaries i []) c.in_ok-new.field-0 =
    subst (λ (texts : List (List ℕ)). AreRanks texts c.in_ok-new.field-0) item c.in_ok-new.ensures in
    rw (c.in_ok-push.ensures.items, take_more dictionaries i [] inside)
    (AllZip-push AreRanks (take i dictionaries) c.loop-dictionary.ranks.items
    (get_or dictionaries i []) c.in_ok-new.field-0 c.loop-dictionary.invariant are)
