use Rattle.std.proofs.Common.{◌≡◌, ◌∙◌, ◌++◌, List, drop, length, rules, subst, take}
use Rattle.std.specs.List.Sorted.{IsPermutation}
use Rattle.std.proofs.Math.Seq.{take-append_seam}
use Rattle.std.proofs.lemmas.Cmp.{nat_list_cmp_total}
use Rattle.std.proofs.lemmas.List.Sorted.{IsPermutation-trans, length_permutation}
use Rattle.std.proofs.lemmas.Result.{on_ok_weaker}
use Rattle.cube_cells.specs.declared.cube.bottom_up.Item.{Item}
use Rattle.cube_cells.proofs.Codes.RankLaws.{IsSortedBy-key}
use Rattle.cube_cells.proofs.cube.sorting.put_in_order.Goals as goal

pub returns-then-threads-lt2-clause-order : goal.returns-then-threads-lt2-clause-order
returns-then-threads-lt2-clause-order g c = IsSortedBy-key nat_list_cmp_total (λ item. item.codes.codes)
    c.sort_unstable_by.new.self.items c.sort_unstable_by.ensures.sorted (λ a r q k. search rules)

pub returns-clause-same : goal.returns-clause-same
returns-clause-same g c =
    let old = c.args.items.now.items in
    let new = c.sort_pieces.new.items in
    let moved : IsPermutation old new = rw c.deref_mut.ensures.value at c.sort_pieces.ensures in
    let long : length new ≡ c.args.items.now.len =
    length_permutation _ _ c.sort_pieces.ensures ∙ c.deref_mut.ensures.len in
    let whole : take c.args.items.now.len (new ++ drop (length new) old) ≡ new =
    rw (← long) (take-append_seam new (drop (length new) old)) in
    IsPermutation-trans old new c.sort_by.new.self.items moved
    (subst (λ (l : List (Item _)). IsPermutation l c.sort_by.new.self.items) whole c.sort_by.ensures.permutation)

pub returns-clause-order : goal.returns-clause-order
returns-clause-order g c = on_ok_weaker c.sort_by.result (λ up. IsSortedBy-key nat_list_cmp_total
    (λ item. item.codes.codes) c.sort_by.new.self.items up (λ a r q k. search rules)) c.sort_by.ensures.sorted
