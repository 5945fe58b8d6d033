use Rattle.std.proofs.Common.{◌<◌, ◌∙◌, ap, arith, length, sym}
use Rattle.std.proofs.lemmas.List.{get_or_default}
use Rattle.cube_rings.specs.declared.parcel.FeederEnd.{FeederEnd}
use Rattle.cube_rings.proofs.ends.first_stop.Goals as goal

pub returns-in-Some-clause-some : goal.returns-in-Some-clause-some
returns-in-Some-clause-some c =
    let inside : c.loop-end.end-index < length c.args.ends.now = omega arith in
    let there = λ (d : FeederEnd). ap (λ (e : FeederEnd). e.stop)
    (get_or_default c.args.ends.now c.loop-end.end-index d c.end-item.result inside ∙ sym c.end-item.is) in
    record {
      place = c.loop-end.end-index;
      source_is = c.loop-end.invariant.0;
      within = inside;
      is = λ d. there d ∙ c.in-Some.is;
      lower = c.loop-end.invariant.1;
    }
