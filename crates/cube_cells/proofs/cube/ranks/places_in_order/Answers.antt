use Rattle.std.proofs.Common.{◌≡◌, ◌++◌, ◌∷◌, [], List, ℕ, rules, get_or, length, ap, subst, sym, zero-add, ◌∙◌, arith}
use Rattle.std.specs.List.{range_with_len}
use Rattle.std.specs.List.Sorted.{IsPermutation}
use Rattle.std.proofs.lemmas.Cmp.{nat_list_cmp_total}
use Rattle.cube_core.proofs.SetLaws.{range_with_len-more}
use Rattle.cube_cells.proofs.Codes.RankLaws.{AreInOrder-IsSortedBy, IsSortedBy-key}
use Rattle.cube_cells.proofs.cube.ranks.places_in_order.Goals as goal

pub loop-place-preserved : goal.loop-place-preserved
loop-place-preserved c =
    let i = c.loop-place.place in
    c.in_ok-push.ensures.items ∙ ap (λ (places : List ℕ). places ++ i ∷ []) c.loop-place.invariant
    ∙ ap (λ (n : ℕ). range_with_len 0 i ++ n ∷ []) (sym (zero-add i)) ∙ sym (range_with_len-more 0 i)

pub returns-clause-order : goal.returns-clause-order
returns-clause-order c =
    let texts = c.args.dictionary.now in
    let whole : c.loop-place.places.items ≡ range_with_len 0 (length texts) = search (rules, arith) in
    let moved : IsPermutation (range_with_len 0 (length texts)) c.sort_unstable_by.new.self.items =
    subst (λ (places : List ℕ). IsPermutation places c.sort_unstable_by.new.self.items)
    whole c.sort_unstable_by.ensures.permutation in
    AreInOrder-IsSortedBy texts c.sort_unstable_by.new.self.items moved
    (IsSortedBy-key nat_list_cmp_total (λ a. get_or texts a [])
    c.sort_unstable_by.new.self.items c.sort_unstable_by.ensures.sorted (λ a r q k. search rules))
