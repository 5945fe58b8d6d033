use Rattle.std.proofs.Common.{arith, rules, ap, sym, ◌≡◌, ◌≤◌, ◌<◌, ◌+◌, ◌∷◌, [], ℕ, ◌∙◌, vec_len}
use Rattle.std.proofs.lemmas.Bool.{eqb-true, eqb-false}
use Rattle.std.proofs.lemmas.Result.{on_ok_weaker}
use Rattle.cube_rings.specs.Starting.{HasGathered}
use Rattle.cube_rings.proofs.KeepLaws.{AllZip-Keeps, grows-Keeps, known-Keeps, room-kept}
use Rattle.cube_rings.proofs.PlaceLaws.{All-append_front, AllZip-nil, length-last}
use Rattle.cube_rings.proofs.starting_feeders.+with_feeders.Goals as goal

some-left : (n : ℕ) → (n ≡ 0 → ⊥) → 1 ≤ n
some-left n not = omega (arith, not)

some-more : (n most : ℕ) → 1 ≤ n → n ≤ most → 1 ≤ most
some-more n most some within = omega arith

less-one : (all rest most : ℕ) → all ≡ rest + 1 → all ≤ most → rest ≤ most
less-one all rest most count within = omega arith

less-both : (all rest posts left : ℕ) → all ≡ rest + 1 → posts ≡ left + 1 → all ≤ posts → rest ≤ left
less-both all rest posts left count posts_count within = omega arith

falls-by : (all rest most : ℕ) → all ≡ most → all ≡ rest + 1 → rest < most
falls-by all rest most is count = omega arith

pub returns-then-is_empty-clause-ends : goal.returns-then-is_empty-clause-ends
returns-then-is_empty-clause-ends g t c =
    AllZip-nil _ _ _
    (sym c.args.feeders.ok.0 ∙ eqb-true (vec_len c.args.feeders) 0 (sym c.is_empty.ensures ∙ c.if-is_empty.true))
    (sym c.args.roster.now.ends.ok.0 ∙ c.requires.room.none)

pub returns-clause-ends : goal.returns-clause-ends
returns-clause-ends g t c =
    let last = c.start_last-feeders.ensures in
    let promised = rw c.in-Some.is at last.promises in
    on_ok_weaker c.keep_end.result
    (AllZip-Keeps _ c.args.feeders.items c.start_last-feeders.result.0.items last.feeder c.with_feeders-answer.result
    c.join.result _ _ last.split c.with_feeders-answer.ensures.ends (rw promised at c.join.ensures))
    c.keep_end.ensures.ends

pub returns-clause-own : goal.returns-clause-own
returns-clause-own g t c =
    known-Keeps (HasGathered g.B.TakesItems.stands c.args.own.now c.with_feeders-answer.new.own)
    c.with_feeders-answer.result c.keep_end.result c.join.result _ _ c.with_feeders-answer.ensures.own
    c.keep_end.ensures.ends

pub returns-clause-room : goal.returns-clause-room
returns-clause-room g t c =
    grows-Keeps c.with_feeders-answer.result c.keep_end.result c.join.result _ _ _ _ _
    c.with_feeders-answer.ensures.room c.keep_end.ensures.room c.keep_end.ensures.ends

pub returns-clause-gatherers : goal.returns-clause-gatherers
returns-clause-gatherers g t c = c.keep_end.ensures.gatherers ∙ c.with_feeders-answer.ensures.gatherers

pub with_feeders-answer-requires : goal.with_feeders-answer-requires
with_feeders-answer-requires g t c κs within =
    let last = c.start_last-feeders.ensures in
    let rest = c.start_last-feeders.result.0 in
    let count : c.args.feeders.len ≡ rest.len + 1 =
    c.args.feeders.ok.0 ∙ length-last c.args.feeders.items rest.items last.feeder last.split
    ∙ ap (λ (n : ℕ). n + 1) (sym rest.ok.0) in
    let posts : c.args.roster.now.posts.len ≡ c.pop.new.self.len + 1 =
    c.args.roster.now.posts.ok.0
    ∙ length-last c.args.roster.now.posts.items c.pop.new.self.items c.unwrap-post.result
    (rw c.unwrap-post.ensures at c.pop.ensures.items)
    ∙ ap (λ (n : ℕ). n + 1) (sym c.pop.new.self.ok.0) in
    let room = c.requires.room in (
      falls-by c.args.feeders.len rest.len t c.decreases count,
      (
        within.0,
        (
          within.1.0,
          (
            within.1.1.0,
            (
              within.1.1.1,
              (
                search rules,
                (
                  search rules,
                  (
                    search rules,
                    (
                      All-append_front rest.items (last.feeder ∷ [])
                          (λ feeder. (1 ≤ vec_len feeder.outlets) × (vec_len feeder.outlets ≤ 8))
                          (rw last.split at c.requires.outlets),
                      (
                        record {
                          most = less-one _ _ _ count room.most;
                          none = room.none;
                          room = less-one _ _ _ count room.room;
                          posts = less-both _ _ _ _ count posts room.posts;
                        },
                        c.requires.ready,
                      ),
                    ),
                  ),
                ),
              ),
            ),
          ),
        ),
      ),
    )

pub keep_end-requires : goal.keep_end-requires
keep_end-requires g t c =
    let last = c.start_last-feeders.ensures in
    room-kept _ c.start_last-feeders.result.0.items c.with_feeders-answer.new.roster.ends.items
    c.with_feeders-answer.result c.args.feeders.len _ _ _
    (c.args.feeders.ok.0 ∙ length-last c.args.feeders.items c.start_last-feeders.result.0.items last.feeder last.split)
    c.with_feeders-answer.new.roster.ends.ok.0 c.requires.room.room c.with_feeders-answer.ensures.ends
    c.with_feeders-answer.ensures.room

pub unwrap-post-requires : goal.unwrap-post-requires
unwrap-post-requires g t c =
    let some = some-left _ (eqb-false (vec_len c.args.feeders) 0 (sym c.is_empty.ensures ∙ c.if-is_empty.false)) in
    c.pop.ensures.variant.1 (some-more _ _ some c.requires.room.posts)

pub start_last-feeders-requires-clause-some : goal.start_last-feeders-requires-clause-some
start_last-feeders-requires-clause-some g t c κs within =
    some-left _ (eqb-false (vec_len c.args.feeders) 0 (sym c.is_empty.ensures ∙ c.if-is_empty.false))
