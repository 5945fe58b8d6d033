-- Links that are cut into shares, and what the builders of all shares are together.
use Rattle.std.proofs.Common.{◌≡◌, ◌<◌, ◌≤◌, ◌+◌, ℕ, zero, suc, false, List, [], ◌∷◌}
use Rattle.std.proofs.Common.{◌++◌, length, get_or, map}
use Rattle.std.proofs.Common.{refl, ap, subst, sym, ◌∙◌, arith, sum_by, vec_len}
use Rattle.std.specs.Global.{Vec}
use Rattle.std.specs.List.{All, AllZip}
use Rattle.std.proofs.lemmas.List.{get_or_append_left, get_or-append-add, get_or-map, length-append}
use Rattle.std.proofs.lemmas.List.{length-map, map-append}
use Rattle.std.proofs.lemmas.List.Elements.{All-tail}
use Rattle.std.proofs.lemmas.List.FromFn.{length-map-range_with_len}
use Rattle.std.proofs.lemmas.List.Sums.{sum_by-cons}
use Rattle.cube_core.specs.Arrival.{Arrivals, of_source, of_sources}
use Rattle.cube_core.specs.declared.change.Item.{Item}
use Rattle.cube_feed.proofs.TurnLaws.{in_turn, of_sources-in_turn}
use Rattle.cube_rings.specs.Link.{Sending, Receiving}
use Rattle.cube_rings.specs.Gathering.{AreFresh}
use Rattle.cube_rings.specs.Parcels.{parcels_of}
use Rattle.cube_rings.specs.Shares.{StandAtShares, StandInShares, AreLinkedInShares}
use Rattle.cube_rings.specs.Wholes.{inlets_of, IsWholeOf}
use Rattle.cube_rings.specs.Starting.{IsReady, HasGathered}
use Rattle.cube_rings.specs.Wiring.{AreLinked}
use Rattle.cube_rings.specs.declared.parcel.Parcel.{Parcel}
use Rattle.cube_rings.specs.declared.gatherer.Gatherer.{Gatherer}

-- each builder has a link from each of its sources
abbrev pub HaveLinks : {B : Type 0} → (B → ℕ) → List (Gatherer B) → Type 0
HaveLinks all shares = All (λ share. vec_len share.inlets ≡ all share.builder) shares

-- all sources are those of the shares
pub sources-shares : {B : Type 0} (all : B → ℕ) (shares : List (Gatherer B)) → HaveLinks all shares →
    sum_by all (map (λ share. share.builder) shares) ≡ length (inlets_of shares)
sources-shares all [] have = refl
sources-shares {B} all (x ∷ xs) have =
    let rest = sources-shares all xs (All-tail (λ share. vec_len share.inlets ≡ all share.builder) x xs have) in
    omega (
      arith,
      sum_by-cons all x.builder (map (λ (share : Gatherer B). share.builder) xs),
      have 0 x (omega arith),
      x.inlets.ok.0,
      rest,
      length-append x.inlets.items (inlets_of xs),
    )

-- ---- before the threads start

-- a share has no more links than all have
length-share : {B : Type 0} (shares : List (Gatherer B)) (j : ℕ) (d : Gatherer B) → j < length shares →
    length (get_or shares j d).inlets.items ≤ length (inlets_of shares)
length-share [] j d below = absurd (omega arith)
length-share (x ∷ xs) zero d below = omega (arith, length-append x.inlets.items (inlets_of xs))
length-share (x ∷ xs) (suc j) d below =
    omega (arith, length-append x.inlets.items (inlets_of xs), length-share xs j d (omega arith))

-- where nothing was received from any link, nothing was from those of a share
fresh-share : {B : Type 0} (shares : List (Gatherer B)) → AreFresh (inlets_of shares) → (j : ℕ) (d : Gatherer B)
    → j < length shares → AreFresh (get_or shares j d).inlets.items
fresh-share [] fresh j d below = absurd (omega arith)
fresh-share (x ∷ xs) fresh zero d below = λ k i low.
    rw (← get_or_append_left x.inlets.items (inlets_of xs) i k low)
    (fresh k i (omega (arith, length-append x.inlets.items (inlets_of xs))))
fresh-share (x ∷ xs) fresh (suc j) d below =
    fresh-share xs (λ k i low. rw (← get_or-append-add x.inlets.items (inlets_of xs) k i)
    (fresh (length x.inlets.items + k) i (omega (arith, length-append x.inlets.items (inlets_of xs)))))
    j d (omega arith)

-- builders in a list of one that are linked
pub linked-whole : {B : Type 0} (outs : List (List (Sending Parcel))) (wholes : List (Gatherer B)) (one : B)
    (whole : Gatherer B) → map (λ gatherer. gatherer.builder) wholes ≡ one ∷ [] → whole ≡ get_or wholes 0 whole
    → AreLinked outs wholes → (whole.builder ≡ one) × AreLinked outs (whole ∷ [])
linked-whole outs [] one whole same is linked = cc
linked-whole outs (x ∷ y ∷ ys) one whole same is linked = cc
linked-whole {B} outs (x ∷ []) one whole same is linked = (
  cc,
  subst (λ (w : Gatherer B). AreLinked outs (w ∷ [])) (sym is) linked,
)

-- linked builders that have taken nothing are ready
pub ready-shares : {B : Type 0} (all : B → ℕ) (stands : B → B → Arrivals → Type 0) (builders : Vec B)
    (outs : List (List (Sending Parcel))) (shares : List (Gatherer B)) →
    AreLinkedInShares outs builders shares → length outs ≤ 64
    → All (λ builder. stands builder builder []) builders.items
    → HaveLinks all shares → All (IsReady all stands) shares
ready-shares {B} all stands builders outs shares linked most new have j d below =
    let share = get_or shares j d in
    let cut = linked.cut in
    let tall = linked.linked.heights 0 linked.whole (omega arith) in
    let number : length (inlets_of shares) ≡ length linked.whole.inlets.items = ap length cut.inlets in
    let same : map (λ (g : Gatherer B). g.builder) shares ≡ builders.items =
    cut.builders ∙ ap (λ (v : Vec B). v.items) linked.builder in
    let as_many : length shares ≡ length builders.items =
    sym (length-map shares (λ (g : Gatherer B). g.builder)) ∙ ap length same in
    let at : get_or builders.items j d.builder ≡ share.builder =
    ap (λ (bs : List B). get_or bs j d.builder) (sym same)
    ∙ get_or-map (λ (g : Gatherer B). g.builder) shares j d d.builder below in
    let fresh : AreFresh linked.whole.inlets.items =
    λ k i low. linked.linked.unreceived k 0 linked.whole i (omega (arith, tall)) (omega arith) in
    record {
      inlets = have j d below;
      most = omega (arith, share.inlets.ok.0, length-share shares j d below, number, tall, most);
      fresh = fresh-share shares (subst AreFresh (sym cut.inlets) fresh) j d below;
      stands_at = rw at at (new j d.builder (omega arith));
    }

-- ---- after the threads were joined

-- what the builders of all shares have gathered
record GatheredInShares {B : Type 0} (all : B → ℕ) (stands : B → B → Arrivals → Type 0) (olds mids : List (Gatherer B))
    : Type 0 where
  pub feeds : List (List Item)
  pub links : map (λ inlet. inlet.link) (inlets_of mids) ≡ map (λ inlet. inlet.link) (inlets_of olds)
  pub received : map (λ inlet. inlet.received) (inlets_of mids) ≡ map parcels_of feeds
  pub long : length feeds ≡ length (inlets_of olds)
  pub stands_at : All (λ gatherer. gatherer.wanting ≡ false) mids
      → StandAtShares all stands (map (λ old. old.builder) olds) (map (λ mid. mid.builder) mids) feeds

gathered-shares : {B : Type 0} (all : B → ℕ) (stands : B → B → Arrivals → Type 0) (olds mids : List (Gatherer B))
    → AllZip (HasGathered stands) olds mids → HaveLinks all olds → GatheredInShares all stands olds mids
gathered-shares all stands [] [] gathered have =
    record { feeds = []; links = refl; received = refl; long = refl; stands_at = λ enough. refl }
gathered-shares all stands [] (m ∷ ms) gathered have = absurd gathered
gathered-shares all stands (o ∷ os) [] gathered have = absurd gathered
gathered-shares {B} all stands (o ∷ os) (m ∷ ms) gathered have =
    let g = gathered.0 in
    let tail = All-tail (λ share. vec_len share.inlets ≡ all share.builder) o os have in
    let rest = gathered-shares all stands os ms gathered.1 tail in
    let own = of_sources (length o.inlets.items) g.arrivals in
    let link = λ (inlet : Receiving Parcel). inlet.link in
    let received = λ (inlet : Receiving Parcel). inlet.received in
    let width : length o.inlets.items ≡ all o.builder = sym o.inlets.ok.0 ∙ have 0 o (omega arith) in
    record {
      feeds = own ++ rest.feeds;
      links = map-append link m.inlets.items (inlets_of ms) ∙ (λ i. g.links i ++ rest.links i)
          ∙ sym (map-append link o.inlets.items (inlets_of os));
      received = map-append received m.inlets.items (inlets_of ms) ∙ (λ i. g.received i ++ rest.received i)
          ∙ sym (map-append parcels_of own rest.feeds);
      long = omega (
        arith,
        length-append own rest.feeds,
        length-append o.inlets.items (inlets_of os),
        length-map-range_with_len (of_source g.arrivals) 1 (length o.inlets.items),
        rest.long,
      );
      stands_at = λ enough. (
        g.arrivals,
        rest.feeds,
        ap (λ n. of_sources n g.arrivals ++ rest.feeds) width,
        g.stands_at (enough 0 m (omega arith)),
        rest.stands_at (All-tail (λ gatherer. gatherer.wanting ≡ false) m ms enough),
      );
    }

-- the builders of all shares have gathered together
pub gathered-whole : {B : Type 0} (all : B → ℕ) (stands : B → B → Arrivals → Type 0) (olds mids : List (Gatherer B))
    (old new : Gatherer (Vec B)) → IsWholeOf olds old → IsWholeOf mids new → AllZip (HasGathered stands) olds mids
    → HaveLinks all olds → HasGathered (StandInShares all stands) old new
gathered-whole {B} all stands olds mids old new before after gathered have =
    let g = gathered-shares all stands olds mids gathered have in
    let arrivals = in_turn 1 g.feeds in
    let turned : of_sources (length g.feeds) arrivals ≡ g.feeds = of_sources-in_turn 1 g.feeds in
    let count : length old.inlets.items ≡ length g.feeds = ap length (sym before.inlets) ∙ sym g.long in
    let number : sum_by all old.builder.items ≡ length g.feeds =
    ap (sum_by all) (sym before.builders) ∙ sources-shares all olds have ∙ sym g.long in
    let link = λ (inlet : Receiving Parcel). inlet.link in
    let received = λ (inlet : Receiving Parcel). inlet.received in
    record {
      arrivals = arrivals;
      links = ap (map link) (sym after.inlets) ∙ g.links ∙ ap (map link) before.inlets;
      received = ap (map received) (sym after.inlets) ∙ g.received
          ∙ ap (map parcels_of) (sym (ap (λ n. of_sources n arrivals) count ∙ turned));
      stands_at = λ none.
          subst (λ (bs : List B). StandAtShares all stands bs new.builder.items
          (of_sources (sum_by all old.builder.items) arrivals)) before.builders
          (subst (λ (bs : List B). StandAtShares all stands (map (λ (o : Gatherer B). o.builder) olds) bs
          (of_sources (sum_by all old.builder.items) arrivals)) after.builders
          (subst (StandAtShares all stands (map (λ (o : Gatherer B). o.builder) olds)
          (map (λ (m : Gatherer B). m.builder) mids)) (sym (ap (λ n. of_sources n arrivals) number ∙ turned))
          (g.stands_at (after.enough none))));
    }
