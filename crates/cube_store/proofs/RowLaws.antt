-- Rows numbered without a gap: one that is put under the next number comes last, and rows say what they were made of.
use Rattle.std.proofs.Common.{◌≡◌, ℕ, suc, ◌+◌, ◌<◌, pos, List, [], ◌∷◌, ◌++◌, length, refl, sym, ap, ◌∙◌, arith}
use Rattle.std.proofs.Common.{Less, int_cmp}
use Rattle.std.proofs.lemmas.List.{append_cancel_left}
use Rattle.std.proofs.lemmas.Int.{ints}
use Rattle.std.specs.Ordering.{match_ordering}
use Rattle.sqlite_value.specs.declared.value.Value.TheVariants.{Int}
use Rattle.sqlite_value.specs.Order.{Row, value_cmp}
use Rattle.sqlite_value.proofs.OrderLemmas.{value_cmp-Int}
use Rattle.sqlite_trees.specs.Tree.{put_row}
use Rattle.cube_store.specs.Rows.{Entry, row_of, rows_from, entries_in, first}
use Rattle.cube_store.specs.Rows.{DifferAt}

lower : (m n : ℕ) → m < n → int_cmp (pos m) (pos n) ≡ Less
lower m n h = grind (arith, ints)

pub lower_first : (m n : ℕ) → m < n → value_cmp (Int (pos m)) (Int (pos n)) ≡ Less
lower_first m n h = value_cmp-Int (pos m) (pos n) ∙ lower m n h

pub rows_length : (n : ℕ) (es : List Entry) → length (rows_from n es) ≡ length es
rows_length n [] = refl
rows_length n (e ∷ es) = ap suc (rows_length (n + 1) es)

pub rows_append : (n : ℕ) (es more : List Entry)
    → rows_from n (es ++ more) ≡ rows_from n es ++ rows_from (n + length es) more
rows_append n [] more = let same : n ≡ n + 0 = omega arith in ap (λ k. rows_from k more) same
rows_append n (e ∷ es) more =
    let same : (n + 1) + length es ≡ n + length (e ∷ es) = omega arith in
    ap (λ rows. row_of n e ∷ rows)
    (rows_append (n + 1) es more ∙ ap (λ k. rows_from (n + 1) es ++ rows_from k more) same)

-- one entry more, whose number is the next
pub rows_more : (start n : ℕ) (es : List Entry) (e : Entry) → start + length es ≡ n
    → rows_from start (es ++ e ∷ []) ≡ rows_from start es ++ row_of n e ∷ []
rows_more start n es e place = rows_append start es (e ∷ []) ∙ ap (λ k. rows_from start es ++ row_of k e ∷ []) place

pub entries_of_rows : (n : ℕ) (es : List Entry) → entries_in (rows_from n es) ≡ es
entries_of_rows n [] = refl
entries_of_rows n (e ∷ es) = ap (λ more. e ∷ more) (entries_of_rows (n + 1) es)

-- a row under the next number comes last
pub put_last : (start n : ℕ) (es : List Entry) (e : Entry) → start + length es ≡ n
    → put_row (row_of n e) (rows_from start es) ≡ rows_from start es ++ row_of n e ∷ []
put_last start n [] e place = refl
put_last start n (d ∷ ds) e place =
    let below : start < n = omega arith in
    let later : (start + 1) + length ds ≡ n = omega arith in
    ap (λ o. match_ordering o (row_of start d ∷ put_row (row_of n e) (rows_from (start + 1) ds))
    (row_of n e ∷ rows_from (start + 1) ds) (row_of n e ∷ row_of start d ∷ rows_from (start + 1) ds))
    (lower_first start n below)
    ∙ ap (λ rows. row_of start d ∷ rows) (put_last (start + 1) n ds e later)

pub put_next : (start n : ℕ) (es : List Entry) (e : Entry) → start + length es ≡ n
    → put_row (row_of n e) (rows_from start es) ≡ rows_from start (es ++ e ∷ [])
put_next start n es e place = put_last start n es e place ∙ sym (rows_more start n es e place)

-- the same rows differ nowhere
pub none_differ : (some others : List Row) (place : ℕ) → some ≡ others → DifferAt some others place → ⊥
none_differ some others place is at =
    let rest : at.some_left ≡ at.others_left =
    append_cancel_left at.same at.some_left at.others_left (sym at.some_are ∙ is ∙ at.others_are) in
    at.apart (ap first rest)
