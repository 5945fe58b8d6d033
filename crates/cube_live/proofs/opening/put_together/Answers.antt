use Rattle.std.proofs.Common.{◌≡◌, ◌-◌, ◌∷◌, [], ap, arith, rules}
use Rattle.std.proofs.lemmas.List.{nil_from_length}
use Rattle.std.proofs.lemmas.Result.{IfOk-weaker}
use Rattle.cube_live.specs.Opening.{opening_sources}
use Rattle.cube_live.proofs.OpeningLaws.{ArePutSoFar, put-all, put-more}
use Rattle.cube_live.proofs.opening.put_together.Goals.{In-Some}
use Rattle.cube_live.proofs.opening.put_together.Goals as goal

-- the opening is the next of those that are left
so_far : (c : In-Some) → ArePutSoFar c.args.schema.now c.args.openings.items c.loop-opening.yielded
    (c.in-Some.opening ∷ c.next.new.self.rest.items) c.loop-opening.whole
so_far c =
    let left : c.loop-opening.opening-iterator.rest.items ≡ c.in-Some.opening ∷ c.next.new.self.rest.items =
    search rules in
    rw left at c.loop-opening.invariant

pub loop-opening-preserved : goal.loop-opening-preserved
loop-opening-preserved c =
    put-more c.args.schema.now c.args.openings.items c.loop-opening.yielded c.next.new.self.rest.items
    c.loop-opening.whole c.in-Some.opening c.in_ok-whole-2.whole (so_far (goal.at.loop-opening-preserved c).In-Some)
    c.in_ok-whole-2.ensures

pub returns : goal.returns
returns c =
    let loop = c.loop-opening in
    let none : loop.opening-iterator.rest.items ≡ [] =
    nil_from_length loop.opening-iterator.rest.items (search rules) in
    let so_far : ArePutSoFar c.args.schema.now c.args.openings.items loop.yielded [] loop.whole =
    rw none at loop.invariant in
    let count : 64 - c.sources.result ≡ 64 - opening_sources loop.whole =
    omega (arith, c.sources.ensures, ap opening_sources c.whole.view_is) in
    IfOk-weaker c.joined-2.result _ _ (λ next. put-all c.args.schema.now c.args.openings.items loop.yielded loop.whole
    c.in_ok-others.others next (64 - c.sources.result) so_far count c.in_ok-others.ensures.accounts
    c.in_ok-others.ensures.numbers) c.joined-2.ensures
