use Rattle.std.proofs.Common.{◌≡◌, pos, get_or, length, rules, FitsSigned, w64}
use Rattle.std.specs.List.{AllWithin}
use Rattle.std.proofs.lemmas.Int.{to_z-of_z}
use Rattle.cube_values.proofs.LogLaws.{HasLeast-Rises, size_of-AllWithin}
use Rattle.cube_values.proofs.log.least_held.Goals as goal

pub returns-in_err-place-clause-none : goal.returns-in_err-place-clause-none
returns-in_err-place-clause-none c =
    let none : AllWithin (λ e. e.1 ≡ 0) c.args.pairs.now 0 (length c.args.pairs.now) = search rules in
    (λ h. size_of-AllWithin c.args.pairs.now none, λ h. search rules)

pub returns-clause-least : goal.returns-clause-least
returns-clause-least c =
    let fits : FitsSigned w64 (get_or c.args.pairs.now c.in_ok-place.place (pos 0, 0)).0 = search rules in
    rw (to_z-of_z w64 (get_or c.args.pairs.now c.in_ok-place.place (pos 0, 0)).0 fits)
    (HasLeast-Rises c.args.pairs.now c.in_ok-place.place (pos 0, 0)
    c.requires c.in_ok-place.ensures.within c.in_ok-place.ensures.found c.in_ok-place.ensures.before)
