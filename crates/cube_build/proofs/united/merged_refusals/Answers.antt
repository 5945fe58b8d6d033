use Rattle.std.proofs.Common.{List}
use Rattle.cube_core.specs.declared.change.Refusal.{Refusal}
use Rattle.cube_ledger.specs.Ledger.{LedgerView}
use Rattle.cube_build.specs.Sharded.{AreMerged, HasRefusals, Rise, refused_numbers}
use Rattle.cube_build.proofs.UnitedLaws.{if-both, merged-sorted}
use Rattle.cube_build.proofs.united.merged_refusals.Goals as goal

pub returns : goal.returns
returns c =
    let sorted = c.sort_unstable_by_key.new.self.items in
    let accounts = c.args.apart.now.accounts in
    let s = c.args.fresh.schema in
    if-both c.refuse_all.result (λ (_ : LedgerView). Rise 0 (refused_numbers sorted)) (HasRefusals s sorted)
    (λ refused. (x : List Refusal) × AreMerged accounts x × HasRefusals s x refused)
    (λ refused rise has. (
      sorted,
      merged-sorted accounts c.in_ok-refusals.refusals.items sorted c.in_ok-refusals.ensures
          c.sort_unstable_by_key.ensures.permutation rise,
      has,
    ))
    (rw c.deref.ensures.value at c.refuse_all.ensures.rise) (rw c.deref.ensures.value at c.refuse_all.ensures.refused)
