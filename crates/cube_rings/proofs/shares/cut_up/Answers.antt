use Rattle.std.proofs.Common.{rules, ◌≡◌, ◌∷◌, ◌++◌, [], ◌∙◌, sym, ap}
use Rattle.std.proofs.Common.{sum_by, vec_len, arith, false, refl, append_assoc}
use Rattle.std.proofs.lemmas.List.{append-nil, map-append, nil_from_length}
use Rattle.std.proofs.lemmas.List.Elements.{All-push}
use Rattle.std.proofs.lemmas.List.Sums.{sum_by-cons}
use Rattle.cube_rings.specs.Wholes.{inlets_of}
use Rattle.cube_rings.proofs.WholeLaws.{inlets-more}
use Rattle.cube_rings.proofs.shares.cut_up.Goals as goal

pub loop-builder-preserved : goal.loop-builder-preserved
loop-builder-preserved g c =
    let loop = c.loop-builder in
    let all = g.B.TakesItems.sources in
    let was = loop.invariant in
    let cut = c.in_ok-rest.ensures in
    let left : loop.builder-iterator.rest.items ≡ c.in-Some.builder ∷ c.next.new.self.rest.items = search rules in
    let sum = ap (sum_by all) left ∙ sum_by-cons all c.in-Some.builder c.next.new.self.rest.items in
    rw c.in_ok-push.ensures.items (
      map-append (λ share. share.builder) loop.shares.items _
          ∙ ap (λ builders. builders ++ c.in-Some.builder ∷ []) was.0,
      inlets-more loop.shares.items _ c.sources.result loop.inlets.items c.in_ok-rest.rest.items
          c.args.whole.inlets.items was.1 cut.items cut.tail,
      All-push (λ share. vec_len share.inlets ≡ all share.builder) loop.shares.items _ was.2 (search rules),
      omega (arith, sum, was.3, cut.tail_len, c.sources.ensures),
      omega (arith, cut.tail_len, was.4),
      was.5,
      append_assoc loop.yielded (c.in-Some.builder ∷ []) c.next.new.self.rest.items
          ∙ ap (λ rest. loop.yielded ++ rest) (sym left) ∙ was.6,
      All-push (λ share. share.wanting ≡ false) loop.shares.items _ was.7 refl,
    )

pub split_off-requires : goal.split_off-requires
split_off-requires g c =
    let loop = c.loop-builder in
    let all = g.B.TakesItems.sources in
    let left : loop.builder-iterator.rest.items ≡ c.in-Some.builder ∷ c.next.new.self.rest.items = search rules in
    let sum = ap (sum_by all) left ∙ sum_by-cons all c.in-Some.builder c.next.new.self.rest.items in
    omega (arith, sum, loop.invariant.3, c.sources.ensures)

pub returns-clause-whole : goal.returns-clause-whole
returns-clause-whole g c =
    let loop = c.loop-builder in
    let was = loop.invariant in
    let done : loop.builder-iterator.rest.items ≡ [] =
    nil_from_length loop.builder-iterator.rest.items (search rules) in
    let all : loop.yielded ≡ c.args.whole.builder.items =
    sym (append-nil loop.yielded) ∙ ap (λ rest. loop.yielded ++ rest) (sym done) ∙ was.6 in
    let none : loop.inlets.items ≡ [] =
    nil_from_length loop.inlets.items (sym loop.inlets.ok.0 ∙ sym was.3 ∙ ap (sum_by g.B.TakesItems.sources) done) in
    record {
      builders = was.0 ∙ all;
      inlets = sym (append-nil (inlets_of loop.shares.items))
          ∙ ap (λ rest. inlets_of loop.shares.items ++ rest) (sym none) ∙ was.1;
      enough = λ is. was.7;
    }
