use Rattle.std.proofs.Common.{◌≡◌, ◌<◌, ◌∷◌, ◌∙◌, [], ◌⊎◌, ℕ, inl, inr, Bool, true, false, refl, rules, arith, length}
use Rattle.std.specs.Prelude.{if◌then◌else◌}
use Rattle.std.proofs.lemmas.List.{length-set}
use Rattle.cube_core.specs.Text.{coord_text, grouping_text}
use Rattle.cube_lines.proofs.ParseLaws.{flags-more, shown-same}
use Rattle.cube_lines.proofs.parse.parse_groupings.Goals as goal

a_flag : (b : Bool) (flag : ℕ) → flag ≡ (if b then 49 else 48) → (flag ≡ 49) ⊎ (flag ≡ 48)
a_flag true flag is = inl is
a_flag false flag is = inr is

pub loop-place-preserved : goal.loop-place-preserved
loop-place-preserved c =
    let before = c.loop-place.invariant in
    let i = c.loop-place.place in
    let cs = c.loop-place.coords in
    let new = c.put_flag.new.coord in
    let on : c.put_flag.result ≡ true = search rules in
    let read : c.loop-place.rest.now ≡ (if c.in_ok-is_all.is_all then 49 else 48) ∷ 44 ∷ c.in_ok-is_all.after.now =
    search rules in
    let inside : i < length cs = omega (arith, before.long, c.loop-place-test.true) in
    let shown : grouping_text new ≡ (if c.in_ok-is_all.is_all then 49 else 48) ∷ [] = c.put_flag.ensures.flag on in
    let same : coord_text new ≡ coord_text c.index-coords-place.result = search (rules, on) in
    record {
      long = length-set cs i new ∙ before.long;
      flags =
          flags-more cs new i c.args.text.now c.loop-place.rest.now c.in_ok-is_all.after.now _ inside before.flags read
          (a_flag c.in_ok-is_all.is_all _ refl) shown;
      same = shown-same cs c.index-coords-place.result new i c.index-coords-place.is same ∙ before.same;
    }
