-- How columns of answers grow, one aggregate after another.
use Rattle.std.proofs.Common.{◌≡◌, ℕ, ◌+◌, ◌<◌, List, ◌++◌, ◌∷◌, [], length, take, get_or, arith, below_more}
use Rattle.std.proofs.Common.{length-append}
use Rattle.std.specs.Global.{Vec}
use Rattle.std.proofs.Math.ListN.{get_or-append}
use Rattle.std.proofs.Math.Seq.{get_or-append_seam}
use Rattle.std.proofs.lemmas.List.{take_more, map-append}
use Rattle.std.proofs.lemmas.List.Elements.{All-push}
use Rattle.cube_core.specs.Answer.{IsAnswer}
use Rattle.cube_core.specs.declared.aggregate.Agg.{Agg}
use Rattle.cube_core.specs.declared.aggregate.Answer.{Answer}
use Rattle.cube_core.specs.declared.aggregate.Answer.TheVariants as answer
use Rattle.cube_core.proofs.ListLaws.{AllZip-push}
use Rattle.cube_cells.specs.Cube.{Cells}
use Rattle.cube_core.specs.declared.key.Key.{Key}
use Rattle.cube_cells.specs.Tally.{Tally}
use Rattle.cube_text.specs.Rows.{AreColumns, IsAnswerOf, IsColumn, answers_at}

-- the column of one aggregate more
pub AreColumns-push : (aggregates : List Agg) (cells : Cells) (from to which : ℕ) (columns : List (Vec Answer))
    (column : Vec Answer) (unused : Agg)
    → which < length aggregates → AreColumns (take which aggregates) cells from to columns
    → from + length column.items ≡ to → IsColumn (get_or aggregates which unused) cells from column.items
    → AreColumns (take (which + 1) aggregates) cells from to (columns ++ column ∷ [])
AreColumns-push aggregates cells from to which columns column unused inside are long is =
    rw (take_more aggregates which unused inside) (record {
      long = All-push (λ (c : Vec Answer). from + length c.items ≡ to) columns column are.long long;
      each = λ i cell below facts tally.
          rw (map-append (λ (c : Vec Answer). get_or c.items i answer.Null) columns (column ∷ []))
          (AllZip-push (IsAnswer facts) (take which aggregates) (answers_at columns i) (get_or aggregates which unused)
          (get_or column.items i answer.Null) (are.each i cell below facts tally)
          (is.each i cell (omega (arith, below, long)) facts tally));
    })

-- the answer for one cell more
pub IsColumn-push : (aggregate : Agg) (cells : Cells) (from place : ℕ) (column : List Answer) (a : Answer)
    → from + length column ≡ place → IsColumn aggregate cells from column
    → ((unused : Key × Tally) → IsAnswerOf aggregate (get_or cells place unused).1 a)
    → (from + length (column ++ a ∷ []) ≡ place + 1) × IsColumn aggregate cells from (column ++ a ∷ [])
IsColumn-push aggregate cells from place column a long is here =
    let longer = length-append column (a ∷ []) in (
      omega (arith, longer),
      record {
        each = λ i unused inside. below_more
            (λ k. IsAnswerOf aggregate (get_or cells (from + k) unused).1 (get_or (column ++ a ∷ []) k answer.Null))
            (length column)
            (λ k below. rw (get_or-append column (a ∷ []) answer.Null k below) (is.each k unused below))
            (rw (get_or-append_seam column a [] answer.Null, long) (here unused))
            i (rw longer at inside);
      },
    )
