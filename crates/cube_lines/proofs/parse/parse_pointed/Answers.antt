use Rattle.std.proofs.Common.{◌≡◌, ◌++◌, ◌∷◌, decimal, rules}
use Rattle.cube_lines.proofs.ParseLaws.{from-place, pointed-begins}
use Rattle.cube_lines.proofs.parse.parse_pointed.Goals as goal

pub returns : goal.returns
returns c =
    let text = c.args.text.now in
    let front = c.in_ok-front.front in
    let point = c.in_ok-front.point.now in
    let fraction = c.in_ok-fraction.fraction.now in
    let one : text ≡ decimal front ++ point = search rules in
    let two : point ≡ 46 ∷ fraction = search rules in
    pointed-begins c.args.digits text (decimal front) point fraction (decimal c.in_ok-number.number) _ one two
    c.in_ok-number.ensures.long c.in_ok-number.ensures.digits (from-place fraction c.args.digits)
