-- Receipts are held against links one by one.
use Rattle.std.proofs.Common.{◌≡◌, ◌<◌, ◌+◌, ℕ, List, [], length, get_or, set, map, ap, subst, sym, ◌∙◌, inl, inr}
use Rattle.std.proofs.Common.{arith, IfSome}
use Rattle.std.proofs.lemmas.List.{get_or-map, get_or_default, length-map, set-get_or}
use Rattle.std.proofs.Math.Seq.{map-set_same}
use Rattle.cube_rings.specs.Link.{Sending, Receiving}
use Rattle.cube_rings.specs.Settling.{received_on, received_by, Kept, kept_of, receipt_of, IsOfLink, Begins}
use Rattle.cube_rings.specs.Settling.{FitLinks}
use Rattle.cube_rings.specs.Settling.{BeginReceipts}
use Rattle.cube_rings.specs.declared.parcel.Parcel.{Parcel}
use Rattle.cube_rings.specs.declared.parcel.FeederEnd.{FeederEnd}
use Rattle.cube_rings.specs.declared.gatherer.Gatherer.{Gatherer}
use Rattle.cube_rings.proofs.PlaceLaws.{lt-cases}

-- an element is put back as it was
set-back : {A : Type 0} (xs : List A) (k : ℕ) (x y : A) → x ≡ get_or xs k x → y ≡ x → set xs k y ≡ xs
set-back xs k x y is same = ap (set xs k) (same ∙ is) ∙ set-get_or xs k x

-- what stands at a place of ends, or of links, that are as they were
end-at : (old now : List FeederEnd) (k : ℕ) (e d : FeederEnd) → now ≡ old → e ≡ get_or now k e → k < length now
    → get_or old k d ≡ e
end-at old now k e d same is below =
    ap (λ (xs : List FeederEnd). get_or xs k d) (sym same) ∙ get_or_default now k d e below ∙ sym is

link-at : (old now : List (Receiving Parcel)) (k : ℕ) (i : Receiving Parcel) (d : Sending Parcel)
    → map received_on now ≡ map received_on old → i ≡ get_or now k i → k < length now →
    get_or (map received_on old) k d ≡ received_on i
link-at old now k i d same is below = ap (λ (xs : List (Sending Parcel)). get_or xs k d) (sym same)
    ∙ get_or-map received_on now k i d below ∙ ap received_on (sym is)

length-links : (old now : List (Receiving Parcel)) → map received_on now ≡ map received_on old → length now ≡ length old
length-links old now same = sym (length-map now received_on) ∙ ap length same ∙ length-map old received_on

-- the receipt at a place is that of the link there
pub fits-at : (builder : ℕ) (ends now : List FeederEnd) (old links : List (Receiving Parcel)) (k : ℕ) (e : FeederEnd)
    (i : Receiving Parcel) → now ≡ ends → map received_on links ≡ map received_on old →
    FitLinks builder ends (map received_on old) → k < length now → e ≡ get_or now k e → i ≡ get_or links k i
    → IfSome (receipt_of e builder) (IsOfLink (received_on i))
fits-at builder ends now old links k e i same kept fit below end_is link_is =
    let ends_too : length now ≡ length ends = ap length same in
    let links_too = length-links old links kept in
    let wide : length old ≡ length ends = sym (length-map old received_on) ∙ fit.all in
    let low : k < length ends = omega arith in
    let short : k < length links = omega arith in
    let known = fit.each k e (received_on i) low in
    subst (λ (r : Sending Parcel). IfSome (receipt_of e builder) (IsOfLink r))
    (link-at old links k i (received_on i) kept link_is short)
    (subst
    (λ (x : FeederEnd). IfSome (receipt_of x builder) (IsOfLink (get_or (map received_on old) k (received_on i))))
    (end-at ends now k e e same end_is below) known)

-- how far the receipts of a builder's links were held against them
pub record HeldBelow (count builder : ℕ) (old now : List FeederEnd) (links later : List (Receiving Parcel))
    : Type 0 where
  pub ends : now ≡ old
  pub received : map received_on later ≡ map received_on links
  pub begin : (k : ℕ) (e : FeederEnd) (d : Sending Parcel) → k < count
      → IfSome (receipt_of (get_or old k e) builder) (Begins (get_or (map received_on links) k d))

-- one receipt more
pub held-more : (k builder : ℕ) (old now : List FeederEnd) (links later : List (Receiving Parcel)) (e new : FeederEnd)
    (i next : Receiving Parcel) → HeldBelow k builder old now links later →
    k < length now → k < length later → e ≡ get_or now k e → i ≡ get_or later k i → new ≡ e
    → received_on next ≡ received_on i → IfSome (receipt_of e builder) (Begins (received_on i)) →
    HeldBelow (k + 1) builder old (set now k new) links (set later k next)
held-more k builder old now links later e new i next held below short end_is link_is same_end same_link begins =
    record {
      ends = set-back now k e new end_is same_end ∙ held.ends;
      received = map-set_same received_on later k next i (same_link ∙ ap received_on link_is) ∙ held.received;
      begin = λ j f d inside. elim (lt-cases j k inside) [
        | inl less ↦ held.begin j f d less
        | inr is ↦
            rw is
            (subst (λ (r : Sending Parcel). IfSome (receipt_of (get_or old k f) builder) (Begins r))
            (sym (link-at links later k i d held.received link_is short))
            (subst (λ (x : FeederEnd). IfSome (receipt_of x builder) (Begins (received_on i)))
            (sym (end-at old now k e f held.ends end_is below)) begins))
      ];
    }

-- ---- all builders

length-kept : {B : Type 0} (old now : List (Gatherer B)) → map kept_of now ≡ map kept_of old → length now ≡ length old
length-kept old now same = sym (length-map now kept_of) ∙ ap length same ∙ length-map old kept_of

-- what was received by the builder at a place of builders that were kept
pub row-at : {B : Type 0} (old now : List (Gatherer B)) (j : ℕ) (g : Gatherer B) → map kept_of now ≡ map kept_of old
    → g ≡ get_or now j g → j < length now → get_or (map received_by old) j [] ≡ received_by g
row-at {B} old now j g same is below =
    let count = length-kept old now same in
    let low : j < length old = omega arith in
    let kept : kept_of (get_or old j g) ≡ kept_of (get_or now j g) =
    sym (get_or-map kept_of old j g (kept_of g) low) ∙ ap (λ (ks : List (Kept B)). get_or ks j (kept_of g)) (sym same)
    ∙ get_or-map kept_of now j g (kept_of g) below in
    get_or-map received_by old j g [] low ∙ ap (λ (k : Kept B). k.received) kept ∙ ap received_by (sym is)

-- how far receipts were held against the builders' links
pub record AllHeldBelow {B : Type 0} (count : ℕ) (old now : List FeederEnd) (gatherers later : List (Gatherer B))
    : Type 0 where
  pub ends : now ≡ old
  pub kept : map kept_of later ≡ map kept_of gatherers
  pub begin : (j : ℕ) → j < count → BeginReceipts j old (get_or (map received_by gatherers) j [])

-- one builder more
pub all_held-more : {B : Type 0} (j : ℕ) (old now new : List FeederEnd) (gatherers later : List (Gatherer B))
    (g next : Gatherer B) → AllHeldBelow j old now gatherers later → j < length later → g ≡ get_or later j g →
    new ≡ now → kept_of next ≡ kept_of g → BeginReceipts j now (received_by g)
    → AllHeldBelow (j + 1) old new gatherers (set later j next)
all_held-more j old now new gatherers later g next held below is same kept begin = record {
  ends = same ∙ held.ends;
  kept = map-set_same kept_of later j next g (kept ∙ ap kept_of is) ∙ held.kept;
  begin = λ k inside. elim (lt-cases k j inside) [
    | inl less ↦ held.begin k less
    | inr at ↦
        rw at
        (subst (λ (row : List (Sending Parcel)). BeginReceipts j old row)
        (sym (row-at gatherers later j g held.kept is below))
        (subst (λ (ends : List FeederEnd). BeginReceipts j ends (received_by g)) held.ends begin))
  ];
}

-- the builders are as many as they were
pub length-all_held : {B : Type 0} (count : ℕ) (old now : List FeederEnd) (gatherers later : List (Gatherer B))
    → AllHeldBelow count old now gatherers later → length later ≡ length gatherers
length-all_held count old now gatherers later held = length-kept gatherers later held.kept

pub length-held : (count builder : ℕ) (old now : List FeederEnd) (links later : List (Receiving Parcel))
    → HeldBelow count builder old now links later → length later ≡ length links
length-held count builder old now links later held = length-links links later held.received
