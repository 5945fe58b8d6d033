-- What a contract sees of the values of a fact's dimensions, whose texts lie in one block (this project's choice).
use Rattle.std.specs.Prelude.{◌≡◌, ◌≤◌, ◌∷◌, [], ◌++◌, ℕ, List, All, length, map, take, drop, Option, Some, None}
use Rattle.std.specs.Prelude.{slice_range, IsUtf8, ⊤}
use Rattle.cube_core.specs.declared.dimension_values.Span.{Span}
use Rattle.cube_core.specs.declared.dimension_values.Span.TheVariants.{Null, Text}
use Rattle.cube_core.specs.declared.dimension_values.StoredValues.{StoredValues}
use Rattle.cube_core.specs.declared.dimension_values.StoredValues.TheVariants.{Short, Long}

-- the block of texts, in the value or on the heap
abbrev pub block_of : StoredValues → List ℕ
block_of (Short block spans) = block.items
block_of (Long block spans) = block.items

-- the spans of the values, in the value or on the heap
abbrev pub spans_of : StoredValues → List (Span ℕ)
spans_of (Short block spans) = spans.items
spans_of (Long block spans) = spans.items

-- the value at a span of a block: null, or the bytes from the span's start to its end
abbrev pub value_at_span : List ℕ → Span ℕ → Option (List ℕ)
value_at_span block Null = None
value_at_span block (Text start end) = Some (slice_range block start end)

-- the values at all spans of a block
abbrev pub values_in : List ℕ → List (Span ℕ) → List (Option (List ℕ))
values_in block spans = map (value_at_span block) spans

-- a span of a text lies within the block, and what lies there is UTF-8
abbrev pub LiesIn : List ℕ → Span ℕ → Type 0
LiesIn block Null = ⊤
LiesIn block (Text start end) = (start ≤ end) × (end ≤ length block) × IsUtf8 (slice_range block start end)

-- a block and its spans have these values more than another block and its spans, whose spans lie within it
abbrev pub AddsAll : List ℕ → List (Span ℕ) → List ℕ → List (Span ℕ) → List (Option (List ℕ)) → Type 0
AddsAll block spans more_block more_spans values =
    All (LiesIn block) spans
    → All (LiesIn more_block) more_spans × (values_in more_block more_spans ≡ values_in block spans ++ values)

-- a block and its spans have one value more than another block and its spans, whose spans lie within it
abbrev pub Adds : List ℕ → List (Span ℕ) → List ℕ → List (Span ℕ) → Option (List ℕ) → Type 0
Adds block spans more_block more_spans value = AddsAll block spans more_block more_spans (value ∷ [])

-- the parts of a text that have these lengths, one after another
abbrev pub parts_of : List ℕ → List ℕ → List (List ℕ)
parts_of [] text = []
parts_of (len ∷ lens) text = take len text ∷ parts_of lens (drop len text)

-- where the spans lie within a block, as many lie within another
abbrev pub Keeps : List ℕ → List (Span ℕ) → List ℕ → List (Span ℕ) → Type 0
Keeps block spans more_block more_spans = All (LiesIn block) spans → All (LiesIn more_block) more_spans
