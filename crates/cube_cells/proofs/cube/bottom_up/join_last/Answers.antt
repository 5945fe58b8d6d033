use Rattle.std.proofs.Common.{rules, ◌≡◌, ◌++◌, ◌∷◌, [], false, true}
use Rattle.std.proofs.lemmas.Result.{on_ok_weaker}
use Rattle.cube_cells.proofs.Cells.WalkLaws.{same_codes-exact}
use Rattle.cube_cells.specs.Coded.{same_codes}
use Rattle.cube_cells.proofs.Filling.BottomUpLaws.{JoinsLast-merged, JoinsLast-put, last-width, apart-same_codes}
use Rattle.cube_cells.proofs.cube.bottom_up.join_last.Goals as goal

pub put_merged-requires : goal.put_merged-requires
put_merged-requires g c =
    let old = c.args.items.now.items in
    let rest = c.pop.new.self.items in
    let was : old ≡ rest ++ c.in-Some.last ∷ [] = c.in-Some.ensures.items in
    last-width c.requires.0 old rest c.in-Some.last (c.args.one.now.codes, c.args.one.now.cell.now) c.requires.1 was

pub returns-then-eq : goal.returns-then-eq
returns-then-eq g c =
    let old = c.args.items.now.items in
    let rest = c.pop.new.self.items in
    let was : old ≡ rest ++ c.in-Some.last ∷ [] = c.in-Some.ensures.items in
    let same : same_codes c.in-Some.last.codes c.args.one.now.codes ≡ true = search rules in
    on_ok_weaker c.put_merged.result (λ made. JoinsLast-merged old rest c.put_merged.new.items.items c.in-Some.last
    (c.args.one.now.codes, c.args.one.now.cell.now) was
    (same_codes-exact c.in-Some.last.codes c.args.one.now.codes same) made) c.put_merged.ensures

pub returns : goal.returns
returns g c =
    let old = c.args.items.now.items in
    let rest = c.pop.new.self.items in
    let was : old ≡ rest ++ c.in-Some.last ∷ [] = c.in-Some.ensures.items in
    let now : c.push.new.self.items ≡ rest ++ c.in-Some.last ∷ [] = c.in_ok-push.ensures.items in
    let other : same_codes c.in-Some.last.codes c.args.one.now.codes ≡ false = search rules in
    on_ok_weaker c.put_copy-2.result (λ made. JoinsLast-put old rest c.push.new.self.items
    c.put_copy-2.new.items.items c.in-Some.last (c.args.one.now.codes, c.args.one.now.cell.now) was now
    (apart-same_codes c.in-Some.last.codes c.args.one.now.codes other) made) c.put_copy-2.ensures
