-- The survivors of changes, and of several feeds, are determined up to their order.
use Rattle.std.proofs.Common.{◌≡◌, ℕ, false, List, [], ◌∷◌, map, filter_map, remove, flat_map, Option, Some, Contains}
use Rattle.std.proofs.Common.{IsPermutation, ◌↔◌, refl, sym, ap, ◌∙◌, subst, subst₂, inl, inr}
use Rattle.std.specs.Str.{bytes_eq}
use Rattle.std.specs.List.{IsDistinct, AllZip, cons_option}
use Rattle.std.specs.Cmp.Lexicographic.{nat_list_eq_equiv}
use Rattle.std.proofs.lemmas.Bool.{false≢true}
use Rattle.std.proofs.lemmas.List.{append-nil}
use Rattle.std.proofs.lemmas.List.Sorted.{IsPermutation-refl, IsPermutation-sym, IsPermutation-remove}
use Rattle.std.proofs.lemmas.List.Sorted.{IsPermutation-append, Contains-permutation}
use Rattle.std.proofs.lemmas.Map.Keys.{IsDistinct-head, IsDistinct-tail, IsDistinct-IsPermutation}
use Rattle.cube_core.specs.Layout.{Layout}
use Rattle.cube_core.specs.Life.{life_of}
use Rattle.cube_core.specs.Surviving.{Survive, AreSurviving}
use Rattle.cube_core.specs.declared.fact.Fact.{Fact}
use Rattle.cube_core.specs.declared.change.Change.{Change}
use Rattle.cube_core.specs.declared.change.Item.{Item}
use Rattle.cube_core.specs.Sources.{SurviveTogether, IsPrintedOf}
use Rattle.cube_core.proofs.LifeLaws.{bytes_eq-itself}
use Rattle.cube_laws.proofs.RowLaws.{IsPrinted-unique}
use Rattle.cube_core.proofs.ReorderedLaws.{Reordered, none, next, both, Reordered-sym, IsPermutation-Reordered}
use Rattle.cube_core.proofs.ReorderedLaws.{Reordered-IsPermutation}
use Rattle.cube_laws.proofs.RowOrderLaws.{filter_map-Reordered, IsPrinted-IsPermutation}
use Rattle.cube_core.proofs.ListLaws.{AllByRecursion-Contains, Contains-cases, Contains-head, Contains-nil}
use Rattle.cube_core.proofs.ListLaws.{Contains-tail}

-- an id that differs from all after it isn't among them
pub head-once : (id : List ℕ) (ids : List (List ℕ)) → IsDistinct bytes_eq (id ∷ ids) → Contains ids id → ⊥
head-once id ids distinct among =
    false≢true (sym (AllByRecursion-Contains (λ other. bytes_eq id other ≡ false) ids id
    (IsDistinct-head bytes_eq id ids distinct) among) ∙ bytes_eq-itself id)

-- what is contained after a head that stands once is contained after it in the other list
tail-Contains : {X : Type 0} (x : X) (xs ys : List X) → (Contains xs x → ⊥) →
    ((y : X) → Contains (x ∷ xs) y → Contains (x ∷ ys) y) → (y : X) → Contains xs y → Contains ys y
tail-Contains x xs ys once within y among = elim (Contains-cases x ys y (within y (Contains-tail x xs y among))) [
  | inl head ↦ absurd (once (subst (Contains xs) (sym head) among))
  | inr rest ↦ rest
]

-- lists of distinct ids that contain the same are one list up to order
IsDistinct-Reordered : (ids ids' : List (List ℕ)) → IsDistinct bytes_eq ids → IsDistinct bytes_eq ids' →
    ((id : List ℕ) → Contains ids id → Contains ids' id) → ((id : List ℕ) → Contains ids' id → Contains ids id) →
    Reordered ids ids'
IsDistinct-Reordered [] [] distinct distinct' to from = none
IsDistinct-Reordered [] (id ∷ ids) distinct distinct' to from =
    absurd (Contains-nil id (from id (Contains-head id ids)))
IsDistinct-Reordered (id ∷ ids) ids' distinct distinct' to from =
    let found = to id (Contains-head id ids) in
    let others : List (List ℕ) = remove ids' found.0 in
    let moved : IsPermutation ids' (id ∷ others) = IsPermutation-remove ids' found.0 id found.1 (sym found.2) in
    let moved_back : IsPermutation (id ∷ others) ids' = IsPermutation-sym ids' (id ∷ others) moved in
    let apart : IsDistinct bytes_eq (id ∷ others)
    = IsDistinct-IsPermutation bytes_eq nat_list_eq_equiv.symm ids' (id ∷ others) moved distinct' in
    both
    (next (IsDistinct-Reordered ids others (IsDistinct-tail bytes_eq id ids distinct)
    (IsDistinct-tail bytes_eq id others apart)
    (tail-Contains id ids others (head-once id ids distinct)
    (λ other among. Contains-permutation ids' (id ∷ others) other moved (to other among)))
    (tail-Contains id others ids (head-once id others apart)
    (λ other among. from other (Contains-permutation (id ∷ others) ids' other moved_back among)))))
    (Reordered-sym (IsPermutation-Reordered ids' (id ∷ others) moved))

-- the facts are what the life of each id gives
pub filter_map-map : (life : List ℕ → Option Fact) (ids : List (List ℕ)) (facts : List Fact)
    → map Some facts ≡ map life ids →
    facts ≡ filter_map life ids
filter_map-map life [] [] same = refl
filter_map-map life [] (fact ∷ facts) same = cc
filter_map-map life (id ∷ ids) [] same = cc
filter_map-map life (id ∷ ids) (fact ∷ facts) same =
    let here : Some fact ≡ life id = cc in
    let after : map Some facts ≡ map life ids = cc in
    ap (λ rest. fact ∷ rest) (filter_map-map life ids facts after)
    ∙ ap (λ found. cons_option found (filter_map life ids)) here

-- the survivors of changes are one list up to order
pub Survive-IsPermutation : (changes : List Change) (facts facts' : List Fact) → Survive changes facts
    → Survive changes facts' →
    IsPermutation facts facts'
Survive-IsPermutation changes facts facts' h k =
    let life : List ℕ → Option Fact = λ id. life_of id changes in
    let ids : Reordered h.ids k.ids
    = IsDistinct-Reordered h.ids k.ids h.each_once k.each_once
    (λ id among. (k.present id).0 ((h.present id).1 among))
    (λ id among. (h.present id).0 ((k.present id).1 among)) in
    subst₂ IsPermutation
    (sym (filter_map-map life h.ids facts h.facts_are_theirs))
    (sym (filter_map-map life k.ids facts' k.facts_are_theirs))
    (Reordered-IsPermutation (filter_map-Reordered life ids))

-- and so are those of several feeds
parts-IsPermutation : (s : Layout) (feeds : List (List Item)) (parts parts' : List (List Fact)) →
    AllZip (AreSurviving s) feeds parts → AllZip (AreSurviving s) feeds parts' →
    IsPermutation (flat_map (λ part. part) parts) (flat_map (λ part. part) parts')
parts-IsPermutation s [] [] [] h k = IsPermutation-refl []
parts-IsPermutation s [] [] (part' ∷ parts') h k = elim k [ ]
parts-IsPermutation s [] (part ∷ parts) parts' h k = elim h [ ]
parts-IsPermutation s (items ∷ feeds) [] parts' h k = elim h [ ]
parts-IsPermutation s (items ∷ feeds) (part ∷ parts) [] h k = elim k [ ]
parts-IsPermutation s (items ∷ feeds) (part ∷ parts) (part' ∷ parts') h k =
    IsPermutation-append part part' (flat_map (λ part. part) parts) (flat_map (λ part. part) parts')
    (Survive-IsPermutation _ part part' h.0 k.0)
    (parts-IsPermutation s feeds parts parts' h.1 k.1)

pub SurviveTogether-IsPermutation : (s : Layout) (feeds : List (List Item)) (facts facts' : List Fact) →
    SurviveTogether s feeds facts → SurviveTogether s feeds facts' → IsPermutation facts facts'
SurviveTogether-IsPermutation s feeds facts facts' h k =
    subst₂ IsPermutation (sym h.joined) (sym k.joined) (parts-IsPermutation s feeds h.parts k.parts h.of_each k.of_each)

-- the survivors of one feed, joined alone
AreSurviving-alone : (s : Layout) (items : List Item) (parts : List (List Fact))
    → AllZip (AreSurviving s) (items ∷ []) parts →
    AreSurviving s items (flat_map (λ part. part) parts)
AreSurviving-alone s items [] h = elim h [ ]
AreSurviving-alone s items (part ∷ []) h = subst (AreSurviving s items) (sym (append-nil part)) h.0
AreSurviving-alone s items (part ∷ other ∷ parts) h = elim h.1 [ ]

pub SurviveTogether-AreSurviving : (s : Layout) (items : List Item) (facts : List Fact) →
    SurviveTogether s (items ∷ []) facts ↔ AreSurviving s items facts
SurviveTogether-AreSurviving s items facts = (
  λ together.
      subst (AreSurviving s items) (sym together.joined) (AreSurviving-alone s items together.parts together.of_each),
  λ surviving. record { parts = facts ∷ []; of_each = (surviving, tt); joined = sym (append-nil facts) },
)

-- the printed cube of the survivors of the sources' bytes is one text
pub IsPrintedOf-text : (s : Layout) (sources : List (List ℕ)) (text text' : List ℕ) → IsPrintedOf s sources text →
    IsPrintedOf s sources text' → text ≡ text'
IsPrintedOf-text s sources text text' h k =
    let same : IsPermutation h.facts k.facts = SurviveTogether-IsPermutation s _ h.facts k.facts h.survive k.survive in
    IsPrinted-unique s k.facts text text' (IsPrinted-IsPermutation s h.facts k.facts text same h.printed) k.printed
