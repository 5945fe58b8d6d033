-- Drafts, and the builders that are made of them.
use Rattle.std.proofs.Common.{◌≡◌, ◌<◌, ◌+◌, ℕ, List, [], ◌∷◌, ◌++◌, length, get_or, map, refl, ap, subst, sym}
use Rattle.std.proofs.Common.{◌∙◌, inl, inr, arith, IfSome}
use Rattle.std.specs.Prelude.{Option, Some, None, option_map}
use Rattle.std.specs.List.{All}
use Rattle.std.proofs.lemmas.List.{get_or_append_left, get_or-map, length-map, map-append}
use Rattle.cube_core.specs.Arrival.{Arrivals, of_sources}
use Rattle.cube_core.specs.Layout.{Layout}
use Rattle.cube_core.specs.declared.change.Item.{Item}
use Rattle.cube_build.specs.Builder.{BuilderView}
use Rattle.cube_rings.specs.FeedingAll.{IsNew}
use Rattle.cube_rings.specs.declared.gatherer.Gatherer.{Gatherer}
use Rattle.cube_rings.proofs.PlaceLaws.{lt-cases, get_or-last, length-one_more, some_of}
use Rattle.cube_build.specs.Drafts.{DraftView, StandsFrom, IsNewDraft, AreNewDrafts, IsMadeOf, IsMadePart}
use Rattle.cube_build.specs.Parts.{AreAllMade, BuiltView}
use Rattle.cube_build.specs.declared.making.MadePart.{MadePart}

-- one draft more
pub new-more : (s : Layout) (sources parts count : ℕ) (drafts : List DraftView) (draft : DraftView)
    → AreNewDrafts s sources parts count drafts → IsNewDraft s sources parts count draft →
    AreNewDrafts s sources parts (count + 1) (drafts ++ draft ∷ [])
new-more s sources parts count drafts draft new is =
    let counted = new.counted in
    record {
      counted = length-one_more drafts draft ∙ ap (λ (n : ℕ). n + 1) counted;
      each = λ part d below. elim (lt-cases part count below) [
        | inl less ↦ rw (get_or_append_left drafts (draft ∷ []) d part (omega arith)) (new.each part d less)
        | inr at ↦ rw (get_or-last drafts draft d part (at ∙ sym counted), at) is
      ];
    }

-- lists that map alike, with one element more each
pub map-one_more : {X Y Z : Type 0} (f : X → Z) (g : Y → Z) (xs : List X) (x : X) (ys : List Y) (y : Y) (more : List Y)
    → map f xs ≡ map g ys → f x ≡ g y → more ≡ ys ++ y ∷ [] →
    map f (xs ++ x ∷ []) ≡ map g more
map-one_more f g xs x ys y more same one is =
    map-append f xs (x ∷ []) ∙ (λ i. same i ++ one i ∷ []) ∙ sym (map-append g ys (y ∷ [])) ∙ ap (map g) (sym is)

-- new drafts are new builders
pub new-drafts : (s : Layout) (sources parts : ℕ) (drafts : List DraftView)
    → AreNewDrafts s sources parts parts drafts →
    All (IsNew (λ (draft : DraftView). length draft.ledger.accounts) StandsFrom sources) drafts
new-drafts s sources parts drafts new part d below =
    let is = new.each part d (omega (arith, new.counted)) in
    record {
      sources_are = is.all;
      stands_at = record { schema = refl; all = refl; cube = refl; stands_at = is.stands_at };
    }

-- feeds that a list of arrivals has of its sources
pub record AreOf (sources : ℕ) (arrivals : Arrivals) (feeds : List (List Item)) : Type 0 where
  pub long : length feeds ≡ sources
  pub are : of_sources sources arrivals ≡ feeds

-- what is made at a place
made-some : {X Y Z : Type 0} (f : X → Y) (g : X → Z) (o : Option X) (y : Y) (z : Z) (P : X → Type 0)
    → option_map f o ≡ Some y → option_map g o ≡ Some z → IfSome o P → (x : X) × P x × (f x ≡ y) × (g x ≡ z)
made-some f g None y z P is also holds = cc
made-some f g (Some x) y z P is also holds = (x, holds, cc, cc)

-- what stands at a place of lists that map alike
at-place : {X Y Z : Type 0} (f : X → Z) (g : Y → Z) (xs : List X) (ys : List Y) (i : ℕ) (x : X) (y : Y)
    → map f xs ≡ map g ys → i < length xs → i < length ys → f (get_or xs i x) ≡ g (get_or ys i y)
at-place f g xs ys i x y same below within =
    sym (get_or-map f xs i x (f x) below) ∙ ap (λ zs. get_or zs i (f x)) same ∙ get_or-map g ys i y (f x) within

-- the parts that were made, one after the other
pub all-made : {N : Type 0} (gatherers : List (Gatherer DraftView)) (made : List (Option (MadePart N))) (built : BuiltView)
    → length made ≡ length gatherers →
    ((part : ℕ) (g : Gatherer DraftView) (d : Option (MadePart N)) → part < length gatherers
    → IfSome (get_or made part d) (IsMadePart (get_or gatherers part g))) →
    map (option_map (λ (part : MadePart N). part.builder)) made ≡ map Some built.builders
    → map (option_map (λ (part : MadePart N). part.inlets.items)) made ≡ map Some built.inlets
    → AreAllMade gatherers built
all-made {N} gatherers made built counted each builders inlets =
    let as_many : length made ≡ length built.builders =
    sym (length-map made (option_map (λ (part : MadePart N). part.builder))) ∙ ap length builders
    ∙ length-map built.builders Some in
    let linked : length made ≡ length built.inlets =
    sym (length-map made (option_map (λ (part : MadePart N). part.inlets.items))) ∙ ap length inlets
    ∙ length-map built.inlets Some in
    let at : (part : ℕ) (g : Gatherer DraftView) (b : BuilderView) → part < length gatherers
    → (x : MadePart N) × IsMadePart (get_or gatherers part g) x × (x.builder ≡ get_or built.builders part b)
    × (x.inlets.items ≡ get_or built.inlets part []) =
    λ part g b below.
    let m = some_of made part (omega arith) in
    made-some (λ (p : MadePart N). p.builder) (λ (p : MadePart N). p.inlets.items) (get_or made part m)
    (get_or built.builders part b) (get_or built.inlets part []) (IsMadePart (get_or gatherers part g))
    (at-place (option_map (λ (p : MadePart N). p.builder)) Some made built.builders part m b builders (omega arith)
    (omega arith))
    (at-place (option_map (λ (p : MadePart N). p.inlets.items)) Some made built.inlets part m [] inlets (omega arith)
    (omega arith))
    (each part g m below) in
    record {
      builders = omega arith;
      inlets = omega arith;
      made = λ part g d below.
          let is = at part g d below in
          subst (IsMadeOf (get_or gatherers part g).builder) is.2 is.1.builder;
      links = λ part g below.
          let b = some_of built.builders part (omega arith) in
          let is = at part g b below in
          sym is.3 ∙ is.1.inlets;
    }
