-- How the facts of a book change with one of its entries.
use Rattle.std.proofs.Common.{◌≡◌, ℕ, Bool, List, [], ◌∷◌, ◌++◌, refl, sym, ap, ◌∙◌, subst, inl, inr}
use Rattle.std.specs.Prelude.{Option, Some, None, MatchOption, option_map, if◌then◌else◌}
use Rattle.std.specs.Option.{option_to_list}
use Rattle.std.specs.Str.{bytes_eq}
use Rattle.std.specs.List.Sorted.{IsPermutation}
use Rattle.std.specs.Map.{lookup, values_of, set_value, remove_entry}
use Rattle.std.proofs.lemmas.Bool.{cases_Bool}
use Rattle.std.proofs.lemmas.List.Sorted.{IsPermutation-refl, IsPermutation-sym, IsPermutation-cons}
use Rattle.std.proofs.lemmas.List.Sorted.{IsPermutation-trans, IsPermutation-map, IsPermutation-append_right}
use Rattle.std.proofs.lemmas.List.Sorted.{IsPermutation-middle}
use Rattle.cube_core.specs.Amendment.{over}
use Rattle.cube_core.specs.Life.{id_of}
use Rattle.cube_core.specs.declared.fact.Fact.{Fact}
use Rattle.cube_core.specs.declared.change.Change.{Change}
use Rattle.cube_core.specs.declared.change.Change.TheVariants.{Insert, Update, Amend, Upsert, Delete, Remove}
use Rattle.cube_core.specs.declared.partial.Partial.{Partial}
use Rattle.cube_ledger.specs.Book.{Entries, GainsEntry, IsBook, Makes, Replaces, Takes, fact_at, fact_put, facts_of}
use Rattle.cube_ledger.specs.Book.{refused_by}
use Rattle.cube_ledger.specs.declared.book.Delta.{Delta}

-- the values are the one that a test finds, and those that are left without it
values_of-remove_entry : {K X : Type 0} (test : K → Bool) (es : List (K × X))
    → IsPermutation (values_of es) (option_to_list (lookup test es) ++ values_of (remove_entry test es))
values_of-remove_entry test [] = IsPermutation-refl []
values_of-remove_entry test (e ∷ es) = elim (cases_Bool (test e.0)) [
  | inl found ↦ rw found (IsPermutation-refl (e.1 ∷ values_of es))
  | inr other ↦
      rw other
      (IsPermutation-trans _ _ _
      (IsPermutation-cons e.1 _ _ (values_of-remove_entry test es))
      (IsPermutation-sym _ _
      (IsPermutation-middle (option_to_list (lookup test es)) e.1 (values_of (remove_entry test es)))))
]

-- a value that a test finds gives way to another
values_of-set_value : {K X : Type 0} (test : K → Bool) (es : List (K × X)) (old new : X) → lookup test es ≡ Some old
    → IsPermutation (new ∷ values_of es) (old ∷ values_of (set_value test es new))
values_of-set_value test [] old new found = cc
values_of-set_value test (e ∷ es) old new found = elim (cases_Bool (test e.0)) [
  | inl here ↦
      let is : e.1 ≡ old = cc (rw here at found) in
      rw (here, is) (IsPermutation-middle (new ∷ []) old (values_of es))
  | inr other ↦
      rw other
      (IsPermutation-trans _ _ _
      (IsPermutation-middle (new ∷ []) e.1 (values_of es))
      (IsPermutation-trans _ _ _
      (IsPermutation-cons e.1 _ _ (values_of-set_value test es old new (rw other at found)))
      (IsPermutation-middle (e.1 ∷ []) old (values_of (set_value test es new)))))
]

-- the facts of entries in another order
facts_of-IsPermutation : (old new : Entries) → IsPermutation old new → IsPermutation (facts_of old) (facts_of new)
facts_of-IsPermutation old new moved = IsPermutation-map (λ (e : List ℕ × Fact). e.1) old new moved

-- a book without the entry of an id
pub Replaces-remove : (old new : Entries) (id : List ℕ) (taken : Option Fact) → taken ≡ fact_at old id
    → ((other : List ℕ) → fact_at new other ≡ (if bytes_eq id other then None else fact_at old other))
    → IsPermutation (remove_entry (bytes_eq id) old) new → IsBook new
    → Replaces old id taken None new
Replaces-remove old new id taken was facts left each_once = record {
  was = was;
  facts = facts;
  moved =
      rw was
      (IsPermutation-trans _ _ _
      (values_of-remove_entry (bytes_eq id) old)
      (IsPermutation-append_right (option_to_list (fact_at old id)) _ _ (facts_of-IsPermutation _ _ left)));
  each_once = each_once;
}

-- how the entries change where a fact is put: one entry more, or another fact in the entry of the id
entries-put : (old new : Entries) (id : List ℕ) (fact : Fact) (gone : Option Fact) → gone ≡ fact_at old id
    → MatchOption gone (IsPermutation ((id, fact) ∷ old) new) (λ _. new ≡ set_value (bytes_eq id) old fact)
    → IsPermutation (fact ∷ facts_of old) (option_to_list gone ++ facts_of new)
entries-put old new id fact None was more = facts_of-IsPermutation _ _ more
entries-put old new id fact (Some before) was same =
    rw same (values_of-set_value (bytes_eq id) old before fact (sym was))

-- a book with a fact under an id
pub Replaces-insert : (old new : Entries) (id : List ℕ) (fact : Fact) (gone : Option Fact) → gone ≡ fact_at old id
    → ((other : List ℕ) → fact_at new other ≡ (if bytes_eq id other then Some fact else fact_at old other))
    → MatchOption gone (IsPermutation ((id, fact) ∷ old) new) (λ _. new ≡ set_value (bytes_eq id) old fact) → IsBook new
    → Replaces old id gone (Some fact) new
Replaces-insert old new id fact gone was facts put each_once = record {
  was = was;
  facts = facts;
  moved = entries-put old new id fact gone was put;
  each_once = each_once;
}

-- ---- a change made

-- an insert, where the id was absent
pub Makes-insert : (old new : Entries) (id : List ℕ) (fact : Fact) → GainsEntry old id fact new
    → Makes old (Insert id fact) None new
Makes-insert old new id fact gains = record {
  lawful = rw gains.absent refl;
  replaces = Replaces-insert old new id fact None (sym gains.absent) gains.facts gains.more gains.each_once;
}

-- another fact put in the place of the one that is there
Makes-replace : (old new : Entries) (change : Change) (put before gone : Fact) → refused_by old change ≡ None
    → fact_at old (id_of change) ≡ Some before
    → gone ≡ before → Some put ≡ fact_put change (fact_at old (id_of change))
    → ((other : List ℕ) → fact_at new other ≡ (if bytes_eq (id_of change) other then Some put else fact_at old other))
    → new ≡ set_value (bytes_eq (id_of change)) old put → IsBook new
    → Makes old change (Some gone) new
Makes-replace old new change put before gone lawful present was puts facts same each_once = record {
  lawful = lawful;
  replaces =
      subst (λ come. Replaces old (id_of change) (Some gone) come new) puts
      (Replaces-insert old new (id_of change) put (Some gone) (ap Some was ∙ sym present) facts same each_once);
}

-- an update, where the id was present
pub Makes-update : (old new : Entries) (id : List ℕ) (fact put before gone : Fact) → fact_at old id ≡ Some before
    → gone ≡ before → put ≡ fact
    → ((other : List ℕ) → fact_at new other ≡ (if bytes_eq id other then Some put else fact_at old other))
    → new ≡ set_value (bytes_eq id) old put → IsBook new
    → Makes old (Update id fact) (Some gone) new
Makes-update old new id fact put before gone present was puts facts same each_once =
    Makes-replace old new (Update id fact) put before gone (rw present refl) present was
    (ap Some puts) facts same each_once

-- an amendment, where the id was present
pub Makes-amend : (old new : Entries) (id : List ℕ) (part : Partial) (put before gone : Fact)
    → fact_at old id ≡ Some before → gone ≡ before → put ≡ over part before
    → ((other : List ℕ) → fact_at new other ≡ (if bytes_eq id other then Some put else fact_at old other))
    → new ≡ set_value (bytes_eq id) old put → IsBook new
    → Makes old (Amend id part) (Some gone) new
Makes-amend old new id part put before gone present was puts facts same each_once =
    Makes-replace old new (Amend id part) put before gone (rw present refl) present was
    (ap Some puts ∙ sym (ap (option_map (over part)) present)) facts same each_once

-- an upsert, whether or not the id was present
pub Makes-upsert : (old new : Entries) (id : List ℕ) (fact : Fact) (gone : Option Fact)
    → Replaces old id gone (Some fact) new → Makes old (Upsert id fact) gone new
Makes-upsert old new id fact gone replaces = record { lawful = refl; replaces = replaces }

-- a removal likewise
pub Makes-remove : (old new : Entries) (id : List ℕ) (gone : Option Fact)
    → Replaces old id gone None new → Makes old (Remove id) gone new
Makes-remove old new id gone replaces = record { lawful = refl; replaces = replaces }

-- a delete, where the id was present
pub Makes-delete : (old new : Entries) (id : List ℕ) (gone : Fact) → Replaces old id (Some gone) None new
    → Makes old (Delete id) (Some gone) new
Makes-delete old new id gone replaces = record {
  lawful = rw (sym replaces.was) refl;
  replaces = replaces;
}

-- a book that made a change took it, where the delta tells what went and what came
pub Takes-Makes : (old : Entries) (change : Change) (delta : Delta) (new : Entries)
    → delta.come ≡ fact_put change (fact_at old (id_of change))
    → Makes old change delta.gone new → Takes old change delta new
Takes-Makes old change delta new come makes = record {
  lawful = makes.lawful;
  come = come;
  replaces = subst (λ c. Replaces old (id_of change) delta.gone c new) (sym come) makes.replaces;
}
