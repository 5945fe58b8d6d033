-- Links are made one by one.
use Rattle.std.proofs.Common.{◌≡◌, ◌≢◌, ◌<◌, ◌+◌, ℕ, suc, List, [], ◌∷◌, ◌++◌, length, get_or, set, map, refl, ap, sym}
use Rattle.std.proofs.Common.{◌∙◌, inl, inr, arith, Option, IfSome, length-set, get_or-set_same, get_or-set_other}
use Rattle.std.proofs.lemmas.List.{get_or_append_left, get_or_default}
use Rattle.std.specs.List.{All}
use Rattle.std.specs.Prelude.{Result, Ok, Err, IfOk}
use Rattle.std.specs.Result.{result_ok}
use Rattle.cube_rings.specs.Link.{Sending, Receiving}
use Rattle.cube_rings.specs.Wiring.{Grows, ConnectsFirst, Connects, AreLinked}
use Rattle.cube_rings.specs.declared.parcel.Parcel.{Parcel}
use Rattle.cube_rings.specs.declared.gatherer.Gatherer.{Gatherer}
use Rattle.cube_rings.proofs.PlaceLaws.{lt-cases, get_or-last, length-one_more, some_of}

-- one builder more got its link
pub connects-more : {B : Type 0} (n : ℕ) (old now : List (Gatherer B)) (outlets : List (Sending Parcel))
    (d new : Gatherer B) (outlet : Sending Parcel) →
    ConnectsFirst n old now outlets → n < length now → Grows (get_or now n d) new outlet
    → ConnectsFirst (n + 1) old (set now n new) (outlets ++ outlet ∷ [])
connects-more n old now outlets d new outlet was within grows =
    let same = was.same_length in
    let wide = was.width in
    let below : n < length old = omega arith in
    record {
      same_length = length-set now n new ∙ same;
      width = length-one_more outlets outlet ∙ ap (λ (k : ℕ). k + 1) wide;
      each = λ j e o low inside. elim (lt-cases j n low) [
        | inl less ↦
            let ne : j ≢ n = omega arith in
            let short : j < length outlets = omega arith in
            rw (
              get_or-set_other now n j new e ne,
              get_or_append_left outlets (outlet ∷ []) o j short,
            ) (was.each j e o less inside)
        | inr is ↦
            let here : j ≡ length outlets = omega (arith, is, wide) in
            rw (
              get_or-last outlets outlet o j here,
              is,
              get_or-set_same now n new e within,
              get_or_default old n e d below,
              ← was.others n d (omega arith),
            ) grows
      ];
      others = λ j e high. let ne : j ≢ n = omega arith in
          rw (get_or-set_other now n j new e ne) (was.others j e (omega arith));
    }

grown-link : {B : Type 0} (old new : Gatherer B) (outlet : Sending Parcel) (s : ℕ) (i : Receiving Parcel)
    → Grows old new outlet → s ≡ length old.inlets.items → outlet.link ≡ (get_or new.inlets.items s i).link
grown-link old new outlet s i grows here =
    rw (grows.inlets, get_or-last old.inlets.items grows.inlet i s here) grows.link

grown-unreceived : {B : Type 0} (old new : Gatherer B) (outlet : Sending Parcel) (s : ℕ) (i : Receiving Parcel)
    → Grows old new outlet → s ≡ length old.inlets.items → (get_or new.inlets.items s i).received ≡ []
grown-unreceived old new outlet s i grows here =
    rw (grows.inlets, get_or-last old.inlets.items grows.inlet i s here) grows.unreceived

grown-before : {B : Type 0} (old new : Gatherer B) (outlet : Sending Parcel) (s : ℕ) (i : Receiving Parcel)
    → Grows old new outlet → s < length old.inlets.items → get_or new.inlets.items s i ≡ get_or old.inlets.items s i
grown-before old new outlet s i grows below =
    rw grows.inlets (get_or_append_left old.inlets.items (grows.inlet ∷ []) i s below)

-- before the first source
pub linked-none : {B : Type 0} (gatherers : List (Gatherer B)) → All (λ gatherer. gatherer.inlets.items ≡ []) gatherers
    → AreLinked [] gatherers
linked-none gatherers none = record {
  widths = λ s below. absurd (omega arith);
  heights = λ j d below. ap length (none j d below);
  links = λ s j d o i below inside. absurd (omega arith);
  unsent = λ s j o below inside. absurd (omega arith);
  unreceived = λ s j d i below inside. absurd (omega arith);
}

-- one source more
pub linked-more : {B : Type 0} (outs : List (List (Sending Parcel))) (old new : List (Gatherer B))
    (outlets : List (Sending Parcel)) →
    AreLinked outs old → Connects old new outlets → AreLinked (outs ++ outlets ∷ []) new
linked-more outs old new outlets was more =
    let same = more.same_length in
    let wide = more.width in
    let count = length-one_more outs outlets in
    record {
      widths = λ s below. elim (lt-cases s (length outs) (omega (arith, count))) [
        | inl less ↦ rw (get_or_append_left outs (outlets ∷ []) [] s less) (was.widths s less ∙ sym same)
        | inr is ↦ rw (get_or-last outs outlets [] s is) (wide ∙ sym same)
      ];
      heights = λ j d below.
          let low : j < length old = omega arith in
          let o = some_of outlets j (omega (arith, wide)) in
          let g = more.each j d o low low in
          ap length g.inlets ∙ length-one_more (get_or old j d).inlets.items g.inlet
          ∙ ap (λ (k : ℕ). k + 1) (was.heights j d low) ∙ sym count;
      links = λ s j d o i below inside.
          let low : j < length old = omega arith in
          let g = more.each j d o low low in
          elim (lt-cases s (length outs) (omega (arith, count))) [
            | inl less ↦
                let short : s < length (get_or old j d).inlets.items = rw (was.heights j d low) less in
                rw (
                  get_or_append_left outs (outlets ∷ []) [] s less,
                  grown-before (get_or old j d) (get_or new j d) (get_or outlets j o) s i g short,
                ) (was.links s j d o i less low)
            | inr is ↦ rw (get_or-last outs outlets [] s is) (grown-link (get_or old j d) (get_or new j d)
                (get_or outlets j o) s i g (is ∙ sym (was.heights j d low)))
          ];
      unsent = λ s j o below inside.
          let low : j < length old = omega arith in
          elim (lt-cases s (length outs) (omega (arith, count))) [
            | inl less ↦ rw (get_or_append_left outs (outlets ∷ []) [] s less) (was.unsent s j o less low)
            | inr is ↦ rw (get_or-last outs outlets [] s is) (more.each j (some_of old j low) o low low).unsent
          ];
      unreceived = λ s j d i below inside.
          let low : j < length old = omega arith in
          let o = some_of outlets j (omega (arith, wide)) in
          let g = more.each j d o low low in
          elim (lt-cases s (length outs) (omega (arith, count))) [
            | inl less ↦
                let short : s < length (get_or old j d).inlets.items = rw (was.heights j d low) less in
                rw (grown-before (get_or old j d) (get_or new j d) (get_or outlets j o) s i g short)
                (was.unreceived s j d i less low)
            | inr is ↦ grown-unreceived (get_or old j d) (get_or new j d) (get_or outlets j o) s i g
                (is ∙ sym (was.heights j d low))
          ];
    }

-- the builders are those they were
pub builders-connected : {B : Type 0} (old new : List (Gatherer B)) → length new ≡ length old
    → ((j : ℕ) (d : Gatherer B) → j < length old → (get_or new j d).builder ≡ (get_or old j d).builder) →
    map (λ gatherer. gatherer.builder) new ≡ map (λ gatherer. gatherer.builder) old
builders-connected [] [] same each = refl
builders-connected [] (y ∷ ys) same each = absurd (omega (arith, same))
builders-connected (x ∷ xs) [] same each = absurd (omega (arith, same))
builders-connected (x ∷ xs) (y ∷ ys) same each =
    let here : y.builder ≡ x.builder = each 0 x (omega arith) in
    let rest = builders-connected xs ys (omega (arith, same)) (λ i d below. each (suc i) d (omega arith)) in
    λ i. here i ∷ rest i

pub builders-connects : {B : Type 0} (old new : List (Gatherer B)) (outlets : List (Sending Parcel))
    → Connects old new outlets → map (λ gatherer. gatherer.builder) new ≡ map (λ gatherer. gatherer.builder) old
builders-connects old new outlets more =
    let wide = more.width in
    builders-connected old new more.same_length
    (λ j d below. (more.each j d (some_of outlets j (omega (arith, wide))) below below).builder)

-- what holds of an answer that is kept where there is one
pub ok-holds : {H F : Type 0} (r : Result H F) (o : Option H) (P : H → Type 0) → o ≡ result_ok r → IfOk r P → IfSome o P
ok-holds {H} {F} r o P is holds = rw is (turn r holds) where
  turn : (r : Result H F) → IfOk r P → IfSome (result_ok r) P
  turn (Ok h) holds = holds
  turn (Err e) holds = tt
