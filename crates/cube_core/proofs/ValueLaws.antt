-- What lies in a block of texts lies there still when more is put at its end, and what covers no value.
use Rattle.std.proofs.Common.{◌≡◌, ◌≤◌, ◌+◌, ◌-◌, ℕ, suc, List, [], ◌∷◌, ◌++◌, append_assoc, length, get_or, map, take}
use Rattle.std.proofs.Common.{drop, nat_eq, Option, Some, refl, sym, ap, ◌∙◌, arith}
use Rattle.std.specs.Prelude.{All, slice_range, IsUtf8}
use Rattle.std.proofs.lemmas.List.{drop-drop, drop-append-le, take-append-le, length-drop, length-append, map-append}
use Rattle.std.proofs.lemmas.List.{take_all}
use Rattle.std.proofs.Math.Seq.{drop-append_seam}
use Rattle.cube_core.specs.declared.key.Coord.{Coord}
use Rattle.cube_core.specs.declared.dimension_values.Span.{Span}
use Rattle.cube_core.specs.declared.dimension_values.Span.TheVariants.{Null, Text}
use Rattle.std.proofs.lemmas.Bool.{eq-eqb, ne_eqb}
use Rattle.cube_core.specs.Covers.{all_stand_for}
use Rattle.std.proofs.lemmas.List.Elements.{All-push}
use Rattle.cube_core.specs.Items.{dimension_of}
use Rattle.cube_core.specs.Values.{Adds, value_at_span, parts_of, LiesIn}

-- a range within a list
slice_range-append : (block more : List ℕ) (start end : ℕ) → start ≤ end → end ≤ length block
    → slice_range (block ++ more) start end ≡ slice_range block start end
slice_range-append block more start end order inside =
    ap (take (end - start)) (drop-append-le start block more (omega arith))
    ∙ take-append-le (end - start) (drop start block) more (omega (arith, length-drop start block))

-- all that was put at the end
slice_range-more : (block more : List ℕ) (end : ℕ) → end ≡ length (block ++ more)
    → slice_range (block ++ more) (length block) end ≡ more
slice_range-more block more end is =
    ap (take (end - length block)) (drop-append_seam block more)
    ∙ take_all (end - length block) more (omega (arith, is, length-append block more))

LiesIn-append : (block more : List ℕ) (span : Span ℕ) → LiesIn block span → LiesIn (block ++ more) span
LiesIn-append block more Null lies = lies
LiesIn-append block more (Text start end) lies = (
  lies.0,
  omega (arith, lies.1, length-append block more),
  rw (slice_range-append block more start end lies.0 lies.1) lies.2,
)

value_at_span-append : (block more : List ℕ) (span : Span ℕ) → LiesIn block span
    → value_at_span (block ++ more) span ≡ value_at_span block span
value_at_span-append block more Null lies = refl
value_at_span-append block more (Text start end) lies = rw (slice_range-append block more start end lies.0 lies.1) refl

values_of-append : (block more : List ℕ) (spans : List (Span ℕ)) → All (LiesIn block) spans
    → map (value_at_span (block ++ more)) spans ≡ map (value_at_span block) spans
values_of-append block more [] all = refl
values_of-append block more (span ∷ spans) all =
    rw (
      value_at_span-append block more span (all 0 span (omega arith)),
      values_of-append block more spans (λ k d below. all (suc k) d (omega (arith, below))),
    ) refl

-- all spans, and their values
all-append : (block more : List ℕ) (spans : List (Span ℕ)) → All (LiesIn block) spans
    → All (LiesIn (block ++ more)) spans × (map (value_at_span (block ++ more)) spans ≡ map (value_at_span block) spans)
all-append block more spans all =
    ((λ k d below. LiesIn-append block more (get_or spans k d) (all k d below)), values_of-append block more spans all)

-- a text at the end of a block, and its span at the end of the spans
pub Adds-text : (block text : List ℕ) (spans : List (Span ℕ)) → IsUtf8 text
    → Adds block spans (block ++ text) (spans ++ Text (length block) (length block + length text) ∷ []) (Some text)
Adds-text block text spans utf8 all =
    let span = Text (length block) (length block + length text) in
    let kept = all-append block text spans all in
    let whole = slice_range-more block text (length block + length text) (sym (length-append block text)) in (
      All-push (LiesIn (block ++ text)) spans span kept.0 (
        omega arith,
        omega (arith, length-append block text),
        rw whole utf8,
      ),
      rw (map-append (value_at_span (block ++ text)) spans (span ∷ []), kept.1, whole) refl,
    )

-- texts at the end of a block, before any of their fields is a value
pub AddsAll-none : (block text : List ℕ) (spans : List (Span ℕ)) (lens : List ℕ) → All (LiesIn block) spans
    → All (LiesIn (block ++ text)) spans
    × (map (value_at_span (block ++ text)) spans ++ map dimension_of
    (parts_of lens (drop (length block) (block ++ text)))
    ≡ map (value_at_span block) spans ++ map dimension_of (parts_of lens text))
AddsAll-none block text spans lens all =
    let kept = all-append block text spans all in
    (kept.0, rw (kept.1, drop-append_seam block text) refl)

-- one field more
pub AddsAll-more : (block : List ℕ) (spans : List (Span ℕ)) (span : Span ℕ) (end len : ℕ) (lens : List ℕ)
    (whole : List (Option (List ℕ)))
    → All (LiesIn block) spans → LiesIn block span
    → value_at_span block span ≡ dimension_of (slice_range block end (end + len))
    → map (value_at_span block) spans ++ map dimension_of (parts_of (len ∷ lens) (drop end block)) ≡ whole
    → All (LiesIn block) (spans ++ span ∷ [])
    × (map (value_at_span block) (spans ++ span ∷ []) ++ map dimension_of (parts_of lens (drop (end + len) block))
    ≡ whole)
AddsAll-more block spans span end len lens whole all lies is so_far =
    let count : (end + len) - end ≡ len = omega arith in
    let value = rw count at is in (
      All-push (LiesIn block) spans span all lies,
      rw (
        map-append (value_at_span block) spans (span ∷ []),
        append_assoc (map (value_at_span block) spans) (value_at_span block span ∷ [])
            (map dimension_of (parts_of lens (drop (end + len) block))),
        value,
        ← drop-drop len end block,
      ) so_far,
    )

-- no coordinate stands for no value, and for the values from a place on only where there are none
no_coords : (rest : List (Option (List ℕ))) (place count : ℕ) → length rest ≡ count - place → place ≤ count
    → nat_eq place count ≡ all_stand_for [] rest
no_coords [] place count none order = eq-eqb place count (omega (arith, none))
no_coords (value ∷ rest) place count some order = ne_eqb place count (λ same. absurd (omega (arith, some, same)))

pub all_stand_for-end : (coords : List Coord) (values : List (Option (List ℕ))) (place : ℕ) → length coords ≡ 0
    → place ≤ length values
    → nat_eq place (length values) ≡ all_stand_for coords (drop place values)
all_stand_for-end [] values place none order =
    no_coords (drop place values) place (length values) (length-drop place values) order
all_stand_for-end (coord ∷ coords) values place none order = absurd (omega (arith, none))
