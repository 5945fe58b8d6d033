-- How the refusals of a list grow with one more item.
use Rattle.std.proofs.Common.{◌≡◌, ℕ, zero, suc, ◌+◌, ◌<◌, List, [], ◌∷◌, ◌++◌, length, take, refl, ap, ◌∙◌, arith}
use Rattle.std.proofs.Common.{length-append, zero-add}
use Rattle.std.specs.Prelude.{Option, Some, None, slice_get, option_and_then}
use Rattle.std.specs.Option.{option_to_list}
use Rattle.std.specs.List.{filter_map, cons_option, range_with_len}
use Rattle.std.proofs.lemmas.List.{take-append-le}
use Rattle.std.proofs.Math.Seq.{take-append_seam}
use Rattle.std.proofs.lemmas.List.Elements.{filter_map-append}
use Rattle.cube_core.specs.Layout.{Layout}
use Rattle.cube_core.specs.Refusals.{refusal_of, refusal_at, refusals_of}
use Rattle.cube_core.specs.declared.change.Item.{Item}
use Rattle.cube_core.proofs.SetLaws.{range_with_len-more}

-- a filter map over a range asks of its numbers alone
filter_map-same_in_range : {B : Type 0} (f g : ℕ → Option B) (a n : ℕ) → ((k : ℕ) → k < a + n → f k ≡ g k)
    → filter_map f (range_with_len a n) ≡ filter_map g (range_with_len a n)
filter_map-same_in_range f g a zero same = refl
filter_map-same_in_range f g a (suc n) same =
    let first : f a ≡ g a = same a (omega arith) in
    let rest : filter_map f (range_with_len (a + 1) n) ≡ filter_map g (range_with_len (a + 1) n) =
    filter_map-same_in_range f g (a + 1) n (λ k below. same k (omega arith)) in
    λ i. cons_option (first i) (rest i)

-- what stands in a longer list at a place of its front
slice_get-front : {A : Type 0} (xs ys : List A) (k : ℕ) → k < length xs → slice_get (xs ++ ys) k ≡ slice_get xs k
slice_get-front [] ys k below = absurd (omega arith)
slice_get-front (x ∷ xs) ys zero below = refl
slice_get-front (x ∷ xs) ys (suc k) below = slice_get-front xs ys k (omega arith)

-- what stands right after the front
slice_get-seam : {A : Type 0} (xs : List A) (y : A) → slice_get (xs ++ y ∷ []) (length xs) ≡ Some y
slice_get-seam [] y = refl
slice_get-seam (x ∷ xs) y = slice_get-seam xs y

-- the refusal at a place depends on the items up to it alone
refusal_at-front : (s : Layout) (items : List Item) (item : Item) (k : ℕ) → k < length items
    → refusal_at s (items ++ item ∷ []) k ≡ refusal_at s items k
refusal_at-front s items item k below =
    let front : take k (items ++ item ∷ []) ≡ take k items = take-append-le k items (item ∷ []) (omega arith) in
    let here : slice_get (items ++ item ∷ []) k ≡ slice_get items k = slice_get-front items (item ∷ []) k below in
    λ i. option_and_then (refusal_of s (front i)) (here i)

-- the refusal at the last place is that of the last item after the others
refusal_at-last : (s : Layout) (items : List Item) (item : Item)
    → refusal_at s (items ++ item ∷ []) (length items) ≡ refusal_of s items item
refusal_at-last s items item =
    let front : take (length items) (items ++ item ∷ []) ≡ items = take-append_seam items (item ∷ []) in
    let here : slice_get (items ++ item ∷ []) (length items) ≡ Some item = slice_get-seam items item in
    λ i. option_and_then (refusal_of s (front i)) (here i)

cons_option-is : {B : Type 0} (o : Option B) → cons_option o [] ≡ option_to_list o
cons_option-is None = refl
cons_option-is (Some b) = refl

-- with one more item the refusals are those before, and then that item's, where it is refused
pub refusals_of-more : (s : Layout) (items : List Item) (item : Item)
    → refusals_of s (items ++ item ∷ []) ≡ refusals_of s items ++ option_to_list (refusal_of s items item)
refusals_of-more s items item =
    let all : List Item = items ++ item ∷ [] in
    let n : ℕ = length items in
    let longer : length all ≡ n + 1 = omega (arith, length-append items (item ∷ [])) in
    ap (λ k. filter_map (refusal_at s all) (range_with_len 0 k)) longer
    ∙ ap (filter_map (refusal_at s all)) (range_with_len-more 0 n)
    ∙ filter_map-append (refusal_at s all) (range_with_len 0 n) ((0 + n) ∷ [])
    ∙ (λ i. filter_map-same_in_range (refusal_at s all) (refusal_at s items) 0 n
    (λ k below. refusal_at-front s items item k (omega arith)) i
    ++ cons_option ((ap (refusal_at s all) (zero-add n) ∙ refusal_at-last s items item) i) [])
    ∙ ap (λ os. refusals_of s items ++ os) (cons_option-is (refusal_of s items item))
