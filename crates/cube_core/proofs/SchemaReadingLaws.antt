-- A TOML document, as `toml` holds it, beside the members that the definitions of the schema read.
use Rattle.std.proofs.Common.{◌≡◌, ℕ, ◌+◌, ◌<◌, ◌&&◌, List, [], ◌∷◌, ◌++◌, length, get_or, drop, Some, None, option_map}
use Rattle.std.proofs.Common.{string_bytes, refl, ap, sym, append_assoc}
use Rattle.std.proofs.lemmas.Option.{same_Some}
use Rattle.std.specs.List.{list_all}
use Rattle.std.specs.Map.{keys_of}
use Rattle.toml.specs.Data.{Data, string, integer, float, boolean, datetime, array, table, Items, item, as_str}
use Rattle.toml.specs.View.{view, items_view, members_view}
use Rattle.toml.specs.declared.value.Value.{Value}
use Rattle.toml.proofs.Views.{Entry, items_view-drop}
use Rattle.cube_core.specs.Layout.{is_listed}
use Rattle.cube_core.specs.FeedDocument.{has_only, texts_of}

-- the test of the keys, on the entries of a table
pub has_only-view : (keys : List (List ℕ)) (entries : List Entry)
    → has_only keys (members_view entries) ≡ list_all (λ key. is_listed (string_bytes key) keys) (keys_of entries)
has_only-view keys [] = refl
has_only-view keys (entry ∷ entries) =
    ap (λ others. is_listed (string_bytes entry.0) keys && others) (has_only-view keys entries)

-- the texts of an array whose first item is a text, and of one whose first item is none
texts_of-text : (value : Data) (others : Items) (text : List ℕ) → Some text ≡ as_str value
    → texts_of (item value others) ≡ option_map (λ texts. text ∷ texts) (texts_of others)
texts_of-text (string found) others text is =
    ap (λ first. option_map (λ texts. first ∷ texts) (texts_of others)) (sym (same_Some text found is))
texts_of-text (integer _) others text is = cc
texts_of-text (float _) others text is = cc
texts_of-text (boolean _) others text is = cc
texts_of-text (datetime _) others text is = cc
texts_of-text (array _) others text is = cc
texts_of-text (table _) others text is = cc

texts_of-other : (value : Data) (others : Items) → None ≡ as_str value → texts_of (item value others) ≡ None
texts_of-other (string found) others is = cc
texts_of-other (integer _) others is = refl
texts_of-other (float _) others is = refl
texts_of-other (boolean _) others is = refl
texts_of-other (datetime _) others is = refl
texts_of-other (array _) others is = refl
texts_of-other (table _) others is = refl

-- what is read so far, and the texts to come: one more text, and an item that is none
pub texts_of-more : (values : List Value) (i : ℕ) (d : Value) (text : List ℕ) (read : List (List ℕ)) → i < length values
    → Some text ≡ as_str (view (get_or values i d))
    → option_map (λ texts. (read ++ text ∷ []) ++ texts) (texts_of (items_view (drop (i + 1) values)))
    ≡ option_map (λ texts. read ++ texts) (texts_of (items_view (drop i values)))
texts_of-more values i d text read inside is =
    rw (
      items_view-drop values i d inside,
      texts_of-text (view (get_or values i d)) (items_view (drop (i + 1) values)) text is,
    )
    (elim (texts_of (items_view (drop (i + 1) values))) as (λ o. option_map (λ texts. (read ++ text ∷ []) ++ texts) o
    ≡ option_map (λ texts. read ++ texts) (option_map (λ texts. text ∷ texts) o)) [
      | None ↦ refl
      | Some texts ↦ ap Some (append_assoc read (text ∷ []) texts)
    ])

pub texts_of-stop : (values : List Value) (i : ℕ) (d : Value) (read : List (List ℕ)) → i < length values
    → None ≡ as_str (view (get_or values i d))
    → option_map (λ texts. read ++ texts) (texts_of (items_view (drop i values))) ≡ None
texts_of-stop values i d read inside is = rw (
  items_view-drop values i d inside,
  texts_of-other (view (get_or values i d)) (items_view (drop (i + 1) values)) is,
)
