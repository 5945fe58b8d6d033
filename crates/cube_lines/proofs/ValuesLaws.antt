-- How the text of values grows, value by value, and that it needs no quotes.
use Rattle.std.proofs.Common.{◌≡◌, ◌++◌, ◌+◌, ◌<◌, ◌≤◌, ◌∷◌, [], ℕ, ℤ, List, length, take, get_or, refl, sym, ap, ◌∙◌}
use Rattle.std.proofs.Common.{append_assoc, arith, codes, decimal, false}
use Rattle.std.specs.List.{flat_map}
use Rattle.std.proofs.lemmas.Grind.{flat_map-append}
use Rattle.std.proofs.lemmas.List.{append-nil, take_more}
use Rattle.std.proofs.lemmas.List.Folds.{list_any-append}
use Rattle.csv.specs.Writing.{default_writer, needs_byte, needs_quotes}
use Rattle.cube_core.specs.Text.{held_text, signed_units_text, values_text}
use Rattle.cube_lines.proofs.TextLaws.{plain-decimal, plain-signed_units}

-- what a value's text is behind another one
abbrev other_text : ℕ → ℤ × ℕ → List ℕ
other_text k other = codes " " ++ held_text k other

-- one more value behind others
pub others-more : (k : ℕ) (others : List (ℤ × ℕ)) (i : ℕ) (d : ℤ × ℕ) (start old new : List ℕ) → i < length others
    → old ≡ start ++ flat_map (other_text k) (take i others)
    → new ≡ (old ++ 32 ∷ []) ++ held_text k (get_or others i d)
    → new ≡ start ++ flat_map (other_text k) (take (i + 1) others)
others-more k others i d start old new inside so_far adds =
    let before = flat_map (other_text k) (take i others) in
    let text = other_text k (get_or others i d) in
    let more : flat_map (other_text k) (take (i + 1) others) ≡ before ++ text =
    ap (flat_map (other_text k)) (take_more others i d inside)
    ∙ flat_map-append (other_text k) (take i others) (get_or others i d ∷ [])
    ∙ ap (λ t. before ++ t) (append-nil text) in
    adds ∙ append_assoc old (32 ∷ []) (held_text k (get_or others i d)) ∙ ap (λ t. t ++ text) so_far
    ∙ append_assoc start before text ∙ ap (λ t. start ++ t) (sym more)

values_text-push : (k : ℕ) (held : List (ℤ × ℕ)) (other : ℤ × ℕ) → 1 ≤ length held
    → values_text k (held ++ other ∷ []) ≡ values_text k held ++ other_text k other
values_text-push k [] other some = absurd (omega (arith, some))
values_text-push k (first ∷ others) other some =
    ap (λ t. held_text k first ++ t)
    (flat_map-append (other_text k) others (other ∷ [])
    ∙ ap (λ t. flat_map (other_text k) others ++ t) (append-nil (other_text k other)))
    ∙ sym (append_assoc (held_text k first) (flat_map (other_text k) others) (other_text k other))

-- one more value of those that a text begins with
pub values-more : (k : ℕ) (held : List (ℤ × ℕ)) (other : ℤ × ℕ) (text rest next behind : List ℕ) → 1 ≤ length held
    → text ≡ values_text k held ++ rest → rest ≡ 32 ∷ next → next ≡ held_text k other ++ behind
    → text ≡ values_text k (held ++ other ∷ []) ++ behind
values-more k held other text rest next behind some so_far space one =
    so_far ∙ ap (λ t. values_text k held ++ t) (space ∙ ap (λ t. 32 ∷ t) one)
    ∙ sym (append_assoc (values_text k held) (other_text k other) behind)
    ∙ ap (λ t. t ++ behind) (sym (values_text-push k held other some))

-- values need no quotes
plain-held : (k : ℕ) (held : ℤ × ℕ) → needs_quotes default_writer (held_text k held) ≡ false
plain-held k held =
    rw (
      list_any-append (needs_byte default_writer) (signed_units_text k held.0 ++ codes "*") (decimal held.1),
      list_any-append (needs_byte default_writer) (signed_units_text k held.0) (codes "*"),
      plain-signed_units k held.0,
      plain-decimal held.1,
    ) refl

plain-others : (k : ℕ) (others : List (ℤ × ℕ))
    → needs_quotes default_writer (flat_map (other_text k) others) ≡ false
plain-others k [] = refl
plain-others k (other ∷ others) =
    rw (
      list_any-append (needs_byte default_writer) (other_text k other) (flat_map (other_text k) others),
      plain-held k other,
      plain-others k others,
    ) refl

pub plain-values : (k : ℕ) (held : List (ℤ × ℕ)) → needs_quotes default_writer (values_text k held) ≡ false
plain-values k [] = refl
plain-values k (held ∷ others) =
    rw (
      list_any-append (needs_byte default_writer) (held_text k held) (flat_map (other_text k) others),
      plain-held k held,
      plain-others k others,
    ) refl
