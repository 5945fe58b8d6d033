use Rattle.std.proofs.Common.{refl, rules, arith, ap}
use Rattle.std.proofs.lemmas.Result.{on_ok_weaker}
use Rattle.cube_cells.specs.Tally.{Tally, AddsBags}
use Rattle.cube_cells.proofs.Tallies.MergeLaws.{AreWithin-both, AreWithin-room}
use Rattle.cube_cells.proofs.Tallies.ValueLaws.{take-append-drop}
use Rattle.cube_cells.proofs.cell.Cell.merge.Goals as goal

pub merge_measures-requires-clause-fits : goal.merge_measures-requires-clause-fits
merge_measures-requires-clause-fits g c = rw (c.deref_mut.ensures.value, c.deref.ensures.value) (λ m. omega (
  arith,
  c.requires.fits,
  ap (λ (t : Tally). t.facts) c.self.view_is,
  ap (λ (t : Tally). t.facts) c.more.view_is,
  AreWithin-room c.self.inside.facts c.more.inside.facts c.self.inside.measures.items c.more.inside.measures.items
      c.self.invariant c.more.invariant m,
))

pub invariant_of-self : goal.invariant_of-self
invariant_of-self g c =
    let old = c.self.inside.measures.items in
    let new = c.merge_measures.new.measures in
    let more = c.more.inside.measures.items in
    let sizes = rw (c.deref_mut.ensures.value, c.deref.ensures.value) at c.merge_measures.ensures.sizes in
    let width = rw c.deref_mut.ensures.value at c.merge_measures.ensures.width in
    let same = take-append-drop old new c.self.inside.measures.len (search rules) width in
    rw same (AreWithin-both c.self.inside.facts c.more.inside.facts old new more c.self.invariant c.more.invariant
    sizes)

pub returns : goal.returns
returns g c =
    let old = c.self.inside.measures.items in
    let new = c.merge_measures.new.measures in
    let more = c.more.inside.measures.items in
    let width = rw c.deref_mut.ensures.value at c.merge_measures.ensures.width in
    let same = take-append-drop old new c.self.inside.measures.len (search rules) width in
    rw (← c.self.view_is, ← c.more.view_is, same) (on_ok_weaker c.merge_measures.result
    (λ (merged : AddsBags old new more). record { facts = refl; bags = merged })
    (rw (c.deref_mut.ensures.value, c.deref.ensures.value) at c.merge_measures.ensures.merged))
