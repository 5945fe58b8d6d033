-- The life of an id, change by change: what one more change at the end of a list does to it.
use Rattle.std.specs.Prelude.{◌≡◌, ◌≢◌, ℕ, Bool, true, false, ◌||◌, List, [], ◌∷◌, ◌++◌, Option, Some, None}
use Rattle.std.specs.Str.{bytes_eq}
use Rattle.std.specs.List.{list_any}
use Rattle.std.proofs.Common.{refl, sym, ap, ◌∙◌, inl, inr, true≢false}
use Rattle.std.proofs.lemmas.List.{append-nil}
use Rattle.std.proofs.lemmas.List.Elements.{filter-append}
use Rattle.std.proofs.lemmas.List.Folds.{list_any-append}
use Rattle.std.proofs.lemmas.List.Sums.{fold_push}
use Rattle.std.proofs.lemmas.Bool.{cases_Bool, or_right, false_from_ne_true}
use Rattle.std.proofs.lemmas.Slice.Eq.{bytes_eq-Decides}
use Rattle.cube_core.specs.Life.{id_of, naming, is_delete, since_delete, updated_by, updated, from_insert, life_of}
use Rattle.cube_core.specs.Amendment.{over}
use Rattle.cube_core.specs.declared.fact.Fact.{Fact}
use Rattle.cube_core.specs.declared.change.Change.{Change}
use Rattle.cube_core.specs.declared.change.Change.TheVariants.{Insert, Update, Amend, Upsert, Delete, Remove}

-- the life of an id after a change that names it, given its life before
abbrev pub life_after : Change → Option Fact → Option Fact
life_after (Insert id fact) None = Some fact
life_after (Insert id fact) (Some present) = Some present
life_after (Update id fact) None = None
life_after (Update id fact) (Some present) = Some fact
life_after (Amend id part) None = None
life_after (Amend id part) (Some present) = Some (over part present)
life_after (Upsert id fact) None = Some fact
life_after (Upsert id fact) (Some present) = Some fact
life_after (Delete id) None = None
life_after (Delete id) (Some present) = None
life_after (Remove id) None = None
life_after (Remove id) (Some present) = None

-- a change that names the id is the last of those that name it
pub naming-more : (id : List ℕ) (changes : List Change) (change : Change) → bytes_eq id (id_of change) ≡ true
    → naming id (changes ++ change ∷ []) ≡ naming id changes ++ change ∷ []
naming-more id changes change same =
    filter-append (λ (c : Change). bytes_eq id (id_of c)) changes (change ∷ []) ∙ rw same refl

-- a change that names another id isn't among them
pub naming-other : (id : List ℕ) (changes : List Change) (change : Change) → bytes_eq id (id_of change) ≡ false
    → naming id (changes ++ change ∷ []) ≡ naming id changes
naming-other id changes change other =
    filter-append (λ (c : Change). bytes_eq id (id_of c)) changes (change ∷ []) ∙ rw other (append-nil _)

-- a list that ends with a delete or a removal has one
is_delete-last : (changes : List Change) (last : Change) → is_delete last ≡ true
    → list_any is_delete (changes ++ last ∷ []) ≡ true
is_delete-last changes last takes = list_any-append is_delete changes (last ∷ []) ∙ rw takes (or_right _ true refl)

-- after one at the end nothing is left
since_delete-last : (changes : List Change) (last : Change) → is_delete last ≡ true
    → since_delete (changes ++ last ∷ []) ≡ []
since_delete-last [] last takes = rw takes refl
since_delete-last (change ∷ changes) last takes =
    rw (is_delete-last (change ∷ changes) last takes) (since_delete-last changes last takes)

-- a change at the end that is no delete leaves the question open
is_delete-other : (changes : List Change) (change : Change) → is_delete change ≡ false
    → list_any is_delete (changes ++ change ∷ []) ≡ list_any is_delete changes
is_delete-other changes change stays = list_any-append is_delete changes (change ∷ []) ∙ rw stays (or-false-at _)
  where
    or-false-at : (b : Bool) → (b || false) ≡ b
    or-false-at true = refl
    or-false-at false = refl

-- a change at the end that is no delete is left after the last delete
pub since_delete-more : (changes : List Change) (change : Change) → is_delete change ≡ false
    → since_delete (changes ++ change ∷ []) ≡ since_delete changes ++ change ∷ []
since_delete-more [] change stays = rw stays refl
since_delete-more (first ∷ changes) change stays = elim (cases_Bool (list_any is_delete (first ∷ changes))) [
  | inl has ↦ rw (is_delete-other (first ∷ changes) change stays, has) (since_delete-more changes change stays)
  | inr hasnt ↦ rw (is_delete-other (first ∷ changes) change stays, hasnt) refl
]

-- a change of a present id that takes it not away
updated_by-life_after : (change : Change) (fact : Fact) → is_delete change ≡ false
    → Some (updated_by fact change) ≡ life_after change (Some fact)
updated_by-life_after (Insert id other) fact stays = refl
updated_by-life_after (Update id other) fact stays = refl
updated_by-life_after (Amend id part) fact stays = refl
updated_by-life_after (Upsert id other) fact stays = refl
updated_by-life_after (Delete id) fact stays = absurd (true≢false stays)
updated_by-life_after (Remove id) fact stays = absurd (true≢false stays)

-- a change at the end that is no delete puts its fact, or some fields of it, where it may
from_insert-more : (changes : List Change) (change : Change) → is_delete change ≡ false
    → from_insert (changes ++ change ∷ []) ≡ life_after change (from_insert changes)
from_insert-more [] (Insert id fact) stays = refl
from_insert-more [] (Update id fact) stays = refl
from_insert-more [] (Amend id part) stays = refl
from_insert-more [] (Upsert id fact) stays = refl
from_insert-more [] (Delete id) stays = refl
from_insert-more [] (Remove id) stays = refl
from_insert-more (Insert _ first ∷ changes) change stays =
    ap Some (fold_push updated_by first changes change) ∙ updated_by-life_after change (updated first changes) stays
from_insert-more (Update _ _ ∷ changes) change stays = from_insert-more changes change stays
from_insert-more (Amend _ _ ∷ changes) change stays = from_insert-more changes change stays
from_insert-more (Upsert _ first ∷ changes) change stays =
    ap Some (fold_push updated_by first changes change) ∙ updated_by-life_after change (updated first changes) stays
from_insert-more (Delete _ ∷ changes) change stays = from_insert-more changes change stays
from_insert-more (Remove _ ∷ changes) change stays = from_insert-more changes change stays

-- an upsert puts its fact
pub life_after-upsert : (id : List ℕ) (fact : Fact) (life : Option Fact) → life_after (Upsert id fact) life ≡ Some fact
life_after-upsert id fact None = refl
life_after-upsert id fact (Some present) = refl

-- nothing is there after a delete
pub life_after-delete : (id : List ℕ) (life : Option Fact) → None ≡ life_after (Delete id) life
life_after-delete id None = refl
life_after-delete id (Some fact) = refl

-- nor after a removal
pub life_after-remove : (id : List ℕ) (life : Option Fact) → None ≡ life_after (Remove id) life
life_after-remove id None = refl
life_after-remove id (Some fact) = refl

-- the life of an id after one more change that names it, where it is no delete
life_of-more : (id : List ℕ) (changes : List Change) (change : Change) → bytes_eq id (id_of change) ≡ true
    → is_delete change ≡ false
    → life_of id (changes ++ change ∷ []) ≡ life_after change (life_of id changes)
life_of-more id changes change same stays =
    ap (λ (cs : List Change). from_insert (since_delete cs)) (naming-more id changes change same)
    ∙ ap from_insert (since_delete-more (naming id changes) change stays)
    ∙ from_insert-more (since_delete (naming id changes)) change stays

-- nothing is left of it, where it is one
life_of-last : (id : List ℕ) (changes : List Change) (change : Change) → bytes_eq id (id_of change) ≡ true
    → is_delete change ≡ true
    → life_of id (changes ++ change ∷ []) ≡ None
life_of-last id changes change same takes =
    ap (λ (cs : List Change). from_insert (since_delete cs)) (naming-more id changes change same)
    ∙ ap from_insert (since_delete-last (naming id changes) change takes)

-- the life of an id after one more change that names it
pub life_of-naming : (id : List ℕ) (changes : List Change) (change : Change) → bytes_eq id (id_of change) ≡ true
    → life_of id (changes ++ change ∷ []) ≡ life_after change (life_of id changes)
life_of-naming id changes (Insert named fact) same = life_of-more id changes (Insert named fact) same refl
life_of-naming id changes (Update named fact) same = life_of-more id changes (Update named fact) same refl
life_of-naming id changes (Amend named part) same = life_of-more id changes (Amend named part) same refl
life_of-naming id changes (Upsert named fact) same = life_of-more id changes (Upsert named fact) same refl
life_of-naming id changes (Delete named) same =
    life_of-last id changes (Delete named) same refl ∙ life_after-delete named (life_of id changes)
life_of-naming id changes (Remove named) same =
    life_of-last id changes (Remove named) same refl ∙ life_after-remove named (life_of id changes)

-- a change that names another id leaves the life of an id as it was
pub life_of-other : (id : List ℕ) (changes : List Change) (change : Change) → bytes_eq id (id_of change) ≡ false
    → life_of id (changes ++ change ∷ []) ≡ life_of id changes
life_of-other id changes change other =
    ap (λ (cs : List Change). from_insert (since_delete cs)) (naming-other id changes change other)

-- a text is its own
pub bytes_eq-itself : (text : List ℕ) → bytes_eq text text ≡ true
bytes_eq-itself text = (bytes_eq-Decides text text).1 refl

-- texts that differ compare as different
pub bytes_eq-other : (a b : List ℕ) → b ≢ a → bytes_eq a b ≡ false
bytes_eq-other a b differs = false_from_ne_true (bytes_eq a b) (λ same. differs (sym ((bytes_eq-Decides a b).0 same)))
